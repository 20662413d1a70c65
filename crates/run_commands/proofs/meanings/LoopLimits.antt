-- The run of what a file holds ends within the limits, or passes one limit first.
use Rattle.std.proofs.Common.{◌≡◌, ℕ, List, Option, Some, None, Ok, sym, subst, ◌∙◌}
use Rattle.speculation.specs.Limits.{Limit}
use Rattle.run_words.specs.declared.options.RunOptions.{RunOptions}
use Rattle.loop_runs.specs.GateTables.{GateTables}
use Rattle.loop_runs.specs.LoopRuns.{IsRunPast}
use Rattle.run_commands.specs.LoopCommands.{LoopCommand, UnderTables, IsReportOn, IsPastOn, IsWithinOn}
use Rattle.loop_runs.proofs.CallerLemmas.{same_limit, ended}
use Rattle.run_commands.proofs.meanings.LoopLaws.{LoopLaws, one_input}

module _ (command : LoopCommand) (laws : LoopLaws command) (options : RunOptions) (conditions : Option (List ℕ)) (bytes : List ℕ) where
  abbrev pub RunsPast : Limit → Type 0
  RunsPast limit = UnderTables command options.table conditions (λ tables. IsPastOn command options tables bytes limit)

  -- there are one set of tables, and one input
  past_at : (tables : GateTables) (input : command.Input) (a : Limit) → command.are_tables options.table conditions tables → command.calls_for bytes (Ok input) → RunsPast a
      → IsRunPast options tables (command.loop input) a
  past_at tables input a are read p =
      subst (λ (x : command.Input). IsRunPast options tables (command.loop x) a) (one_input command laws bytes p.holds.input input p.holds.is_read read)
      (subst (λ (t : GateTables). IsRunPast options t (command.loop p.holds.input) a) (laws.one_set options.table conditions p.tables tables p.are_tables are) p.holds.is_past)

  pub one_limit : (a b : Limit) → RunsPast a → RunsPast b → a ≡ b
  one_limit a b p q = same_limit options q.tables (command.loop q.holds.input) a b (past_at q.tables q.holds.input a q.are_tables q.holds.is_read p) q.holds.is_past

  pub ends_or_passes : (report : List ℕ) (a : Limit) → UnderTables command options.table conditions (λ tables. IsReportOn command options tables bytes report) → RunsPast a → ⊥
  ends_or_passes report a r p =
      ended options r.tables (command.loop r.holds.input) r.holds.is_report.run a r.holds.is_report.is_run (past_at r.tables r.holds.input a r.are_tables r.holds.is_read p)

  pub stays_or_passes : (a : Limit) → IsWithinOn command options conditions bytes → RunsPast a → ⊥
  stays_or_passes a w p =
      let here = past_at p.tables w.input a p.are_tables w.is_read p in
      let none : None ≡ Some a = sym (w.is_within p.tables here.turns p.are_tables) ∙ here.passes in
      absurd (cc)
