use Rattle.std.proofs.Common.{ℕ, arith, length-drop, length-take, refl, ◌∙◌}
use Rattle.std.proofs.lemmas.List.{take_rest}
use Rattle.gx_io.proofs.Adding.{HasAdded-more}
use Rattle.gx_io.proofs.sinks.write_whole.Goals as goal

pub loop-done-preserved : goal.loop-done-preserved
loop-done-preserved g c =
    let bytes = c.args.bytes.now in
    let done = c.loop-done.done in
    let n = c.in_ok-done.field-0 in
    let took = c.in_ok-done.ensures in
    let now = g.K.Sink.told c.write.new.self in
    let added = rw take_rest at took.adds in
    record {
      within = omega (arith, took.count, length-take {A = ℕ}, length-drop {A = ℕ});
      added = HasAdded-more (g.K.Sink.told c.args.sink.now) (g.K.Sink.told c.loop-done.sink) now bytes done n c.loop-done.invariant.added added;
      kept = took.cause.kept refl ∙ c.loop-done.invariant.kept;
    }
