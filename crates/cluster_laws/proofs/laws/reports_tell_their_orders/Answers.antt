use Rattle.cluster_laws.proofs.OrdersTold.{orders_told, numbered_by_file}
use Rattle.cluster_laws.proofs.laws.reports_tell_their_orders.Goals as goal

pub returns-clause-told : goal.returns-clause-told
returns-clause-told c = orders_told

pub returns-clause-of_files : goal.returns-clause-of_files
returns-clause-of_files c = numbered_by_file
