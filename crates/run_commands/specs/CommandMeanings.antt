-- The meaning of each command.
use Rattle.run_words.specs.declared.words.Command.{Command}
use Rattle.run_words.specs.declared.words.Command.TheVariants.{Flow, Cluster, Classify, Help, Version}
use Rattle.run_words.specs.declared.options.RunOptions.{RunOptions}
use Rattle.run_words.specs.Words.{Planned}
use Rattle.run_commands.specs.CommandMeaning.{CommandMeaning}
use Rattle.run_commands.specs.commands.Flow.{flow_meaning}
use Rattle.run_commands.specs.commands.Cluster.{cluster_meaning}
use Rattle.run_commands.specs.commands.Classify.{classify_meaning}
use Rattle.run_commands.specs.commands.About.{help_text, version_text, told_meaning}

abbrev pub meaning_by : Command → RunOptions → CommandMeaning
meaning_by Flow options = flow_meaning options
meaning_by Cluster options = cluster_meaning options
meaning_by Classify options = classify_meaning
meaning_by Help options = told_meaning help_text
meaning_by Version options = told_meaning version_text

-- the meaning of the command that was planned
abbrev pub command_meaning : Planned → CommandMeaning
command_meaning plan = meaning_by plan.command plan.options
