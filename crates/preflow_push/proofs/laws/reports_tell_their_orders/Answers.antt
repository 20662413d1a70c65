use Rattle.preflow_push.proofs.orders.OrdersTold.{orders_told, words_of_file}
use Rattle.preflow_push.proofs.laws.reports_tell_their_orders.Goals as goal

pub returns-clause-told : goal.returns-clause-told
returns-clause-told c = orders_told

pub returns-clause-of_files : goal.returns-clause-of_files
returns-clause-of_files c = words_of_file
