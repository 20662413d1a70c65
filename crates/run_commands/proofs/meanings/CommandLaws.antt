-- What is shown of all commands: what a command may tell, and that nothing is told of inputs that have a run to its end.
use Rattle.std.proofs.Common.{◌≡◌, ℕ}
use Rattle.cond_syntax.proofs.CallerLemmas.{no_fault_of_a_table}
use Rattle.cond_syntax.specs.TableTexts.{all_kinds}
use Rattle.gx_base.specs.declared.inputs.What.{What}
use Rattle.speculation.specs.Limits.{Limit}
use Rattle.run_words.specs.declared.options.RunOptions.{RunOptions}
use Rattle.run_words.specs.declared.words.Command.{Command}
use Rattle.run_words.specs.declared.words.Command.TheVariants.{Flow, Cluster, Classify, Help, Version}
use Rattle.run_commands.specs.declared.run_faults.TableFault.{TableFault}
use Rattle.run_commands.specs.commands.Flow.{flow_command}
use Rattle.run_commands.specs.commands.Cluster.{cluster_command}
use Rattle.run_commands.specs.CommandMeanings.{meaning_by}
use Rattle.run_commands.specs.Inputs.{Inputs, main_of}
use Rattle.run_commands.proofs.meanings.ClusterLaws.{cluster_laws}
use Rattle.run_commands.proofs.meanings.FlowLaws.{flow_laws}
use Rattle.run_commands.proofs.meanings.LoopLaws.{read_or_faulty, read_or_large}
use Rattle.run_commands.proofs.meanings.LoopLimits.{stays_or_passes}

-- ---- what is told, whatever the files tell

pub conditions_fault_is_told : (command : Command) (options : RunOptions) (inputs : Inputs) (why : TableFault) → (meaning_by command options).bad_table inputs why → (meaning_by command options).faults why
conditions_fault_is_told Flow options inputs why bad = flow_laws.fault_is_told inputs.conditions why bad
conditions_fault_is_told Cluster options inputs why bad = cluster_laws.fault_is_told inputs.conditions why bad
conditions_fault_is_told Classify options inputs why bad = bad
conditions_fault_is_told Help options inputs why bad = bad
conditions_fault_is_told Version options inputs why bad = bad

pub line_is_told : (command : Command) (options : RunOptions) (inputs : Inputs) (line : ℕ) → (meaning_by command options).malformed inputs line → (meaning_by command options).lines line
line_is_told Flow options inputs line m = flow_laws.line_is_told (main_of inputs) line m.1
line_is_told Cluster options inputs line m = cluster_laws.line_is_told (main_of inputs) line m.1
line_is_told Classify options inputs line m = m.is_first.from_one
line_is_told Help options inputs line m = m
line_is_told Version options inputs line m = m

pub limit_is_told : (command : Command) (options : RunOptions) (inputs : Inputs) (what : What) → (meaning_by command options).too_large inputs what → (meaning_by command options).limits what
limit_is_told Flow options inputs what l = flow_laws.limit_is_told (main_of inputs) what l.1
limit_is_told Cluster options inputs what l = cluster_laws.limit_is_told (main_of inputs) what l.1
limit_is_told Classify options inputs what l = absurd l
limit_is_told Help options inputs what l = l
limit_is_told Version options inputs what l = l

pub runs_on : (command : Command) (options : RunOptions) (inputs : Inputs) (limit : Limit) → (meaning_by command options).passes inputs limit → (meaning_by command options).runs_on
runs_on Flow options inputs limit p = tt
runs_on Cluster options inputs limit p = tt
runs_on Classify options inputs limit p = p
runs_on Help options inputs limit p = p
runs_on Version options inputs limit p = p

-- ---- where nothing is wrong with the inputs, none of these is told

pub no_bad_table : (command : Command) (options : RunOptions) (inputs : Inputs) (why : TableFault) → (meaning_by command options).ends inputs → (meaning_by command options).bad_table inputs why → ⊥
no_bad_table Flow options inputs why e bad = e.are_accepted why bad
no_bad_table Cluster options inputs why e bad = e.are_accepted why bad
no_bad_table Classify options inputs why e bad = bad
no_bad_table Help options inputs why e bad = bad
no_bad_table Version options inputs why e bad = bad

pub no_line : (command : Command) (options : RunOptions) (inputs : Inputs) (line : ℕ) → (meaning_by command options).ends inputs → (meaning_by command options).malformed inputs line → ⊥
no_line Flow options inputs line e m = read_or_faulty flow_command flow_laws (main_of inputs) e.input line e.is_read m.1
no_line Cluster options inputs line e m = read_or_faulty cluster_command cluster_laws (main_of inputs) e.input line e.is_read m.1
no_line Classify options inputs line e m = no_fault_of_a_table all_kinds _ e.kind e.rows line m.fault e.is_table m.is_first
no_line Help options inputs line e m = m
no_line Version options inputs line e m = m

pub no_large : (command : Command) (options : RunOptions) (inputs : Inputs) (what : What) → (meaning_by command options).ends inputs → (meaning_by command options).too_large inputs what → ⊥
no_large Flow options inputs what e l = read_or_large flow_command flow_laws (main_of inputs) e.input what e.is_read l.1
no_large Cluster options inputs what e l = read_or_large cluster_command cluster_laws (main_of inputs) e.input what e.is_read l.1
no_large Classify options inputs what e l = l
no_large Help options inputs what e l = l
no_large Version options inputs what e l = l

pub no_past : (command : Command) (options : RunOptions) (inputs : Inputs) (limit : Limit) → (meaning_by command options).ends inputs → (meaning_by command options).passes inputs limit → ⊥
no_past Flow options inputs limit e p = stays_or_passes flow_command flow_laws options inputs.conditions (main_of inputs) limit e p
no_past Cluster options inputs limit e p = stays_or_passes cluster_command cluster_laws options inputs.conditions (main_of inputs) limit e p
no_past Classify options inputs limit e p = p
no_past Help options inputs limit e p = p
no_past Version options inputs limit e p = p
