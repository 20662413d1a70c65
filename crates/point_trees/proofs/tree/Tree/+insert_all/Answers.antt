use Rattle.std.proofs.Common.{◌<◌, rules, of_calls, refl, length, subst}
use Rattle.std.proofs.lemmas.Fn.{always_returns_same}
use Rattle.std.specs.List.Sorted.{IsSplitAroundBy}
use Rattle.std.specs.Ordering.{is_lt}
use Rattle.point_trees.specs.Trees.{spot_cmp}
use Rattle.point_trees.proofs.rebuilds.Gathering.{front_less, back_less, gathers_one, gathers_parts_ok}
use Rattle.point_trees.proofs.rebuilds.Heights.{low_parts_ok, halves_length, front_half, back_half}
use Rattle.point_trees.proofs.rebuilds.Halves.{spot_cmp_ranks, middle_in, front_new, back_new, none_clear, all_beside_ok}
use Rattle.point_trees.proofs.tree.Tree.+insert_all.Goals as goal

pub insert_at-requires-clause-free : goal.insert_at-requires-clause-free
insert_at-requires-clause-free t c =
    c.requires.new.free c.select_nth_unstable_by-front.result.1.now
    (middle_in c.args.spots.now c.select_nth_unstable_by-front.result.0.now c.select_nth_unstable_by-front.result.2.now c.select_nth_unstable_by-front.result.1.now c.select_nth_unstable_by-front.ensures.permutation)

pub insert_at-requires-clause-seat : goal.insert_at-requires-clause-seat
insert_at-requires-clause-seat t c =
    c.requires.new.seated c.select_nth_unstable_by-front.result.1.now
    (middle_in c.args.spots.now c.select_nth_unstable_by-front.result.0.now c.select_nth_unstable_by-front.result.2.now c.select_nth_unstable_by-front.result.1.now c.select_nth_unstable_by-front.ensures.permutation)

pub insert_at-requires-clause-clear : goal.insert_at-requires-clause-clear
insert_at-requires-clause-clear t c = none_clear c.args.self.now c.select_nth_unstable_by-front.result.1.now c.requires.sound c.requires.new.bare

pub insert_all-requires : goal.insert_all-requires
insert_all-requires t c =
    let split : IsSplitAroundBy (λ p q. is_lt (spot_cmp c.widest-axis.result p q)) c.select_nth_unstable_by-front.result.0.now c.select_nth_unstable_by-front.result.1.now c.select_nth_unstable_by-front.result.2.now =
    c.select_nth_unstable_by-front.ensures.partitioned (λ p q. is_lt (spot_cmp c.widest-axis.result p q)) (spot_cmp_ranks c.widest-axis.result) (always_returns_same _ _ _ (λ a r f k. search (rules, of_calls))) in (
      subst (λ m. length c.select_nth_unstable_by-front.result.0.now < m) c.decreases
          (front_less c.args.spots.now c.select_nth_unstable_by-front.result.0.now c.select_nth_unstable_by-front.result.2.now c.select_nth_unstable_by-front.result.1.now c.select_nth_unstable_by-front.ensures.permutation),
      (
        c.in_ok-key.ensures.sound,
        (
          refl,
          front_new c.args.self.now c.args.spots.now c.select_nth_unstable_by-front.result.0.now c.select_nth_unstable_by-front.result.2.now c.select_nth_unstable_by-front.result.1.now c.args.seat c.widest-axis.result c.requires.new
              c.select_nth_unstable_by-front.ensures.permutation split c.insert_at.new.self c.in_ok-key.key (gathers_one c.args.self.now c.insert_at.new.self c.select_nth_unstable_by-front.result.1.now c.in_ok-key.ensures.ok c.in_ok-key.ensures.dead)
              c.in_ok-key.ensures.below,
        ),
      ),
    )

pub insert_all-requires-2 : goal.insert_all-requires-2
insert_all-requires-2 t c =
    let split : IsSplitAroundBy (λ p q. is_lt (spot_cmp c.widest-axis.result p q)) c.select_nth_unstable_by-front.result.0.now c.select_nth_unstable_by-front.result.1.now c.select_nth_unstable_by-front.result.2.now =
    c.select_nth_unstable_by-front.ensures.partitioned (λ p q. is_lt (spot_cmp c.widest-axis.result p q)) (spot_cmp_ranks c.widest-axis.result) (always_returns_same _ _ _ (λ a r f k. search (rules, of_calls))) in (
      subst (λ m. length c.select_nth_unstable_by-front.result.2.now < m) c.decreases
          (back_less c.args.spots.now c.select_nth_unstable_by-front.result.0.now c.select_nth_unstable_by-front.result.2.now c.select_nth_unstable_by-front.result.1.now c.select_nth_unstable_by-front.ensures.permutation),
      (
        c.in_ok-insert_all.ensures.sound,
        (
          refl,
          back_new c.args.self.now c.args.spots.now c.select_nth_unstable_by-front.result.0.now c.select_nth_unstable_by-front.result.2.now c.select_nth_unstable_by-front.result.1.now c.args.seat c.widest-axis.result c.requires.new
              c.select_nth_unstable_by-front.ensures.permutation split c.insert_at.new.self c.in_ok-key.key (gathers_one c.args.self.now c.insert_at.new.self c.select_nth_unstable_by-front.result.1.now c.in_ok-key.ensures.ok c.in_ok-key.ensures.dead)
              c.in_ok-key.ensures.below c.insert_all.new.self c.in_ok-insert_all.ensures.ok c.in_ok-insert_all.ensures.beside c.in_ok-insert_all.ensures.bare,
        ),
      ),
    )

pub returns-clause-ok : goal.returns-clause-ok
returns-clause-ok t c =
    gathers_parts_ok c.insert_all-2.result c.args.self.now c.insert_at.new.self c.insert_all.new.self c.insert_all-2.new.self
    c.args.spots.now c.select_nth_unstable_by-front.result.0.now c.select_nth_unstable_by-front.result.2.now c.select_nth_unstable_by-front.result.1.now c.select_nth_unstable_by-front.ensures.permutation
    (gathers_one c.args.self.now c.insert_at.new.self c.select_nth_unstable_by-front.result.1.now c.in_ok-key.ensures.ok c.in_ok-key.ensures.dead) c.in_ok-insert_all.ensures.ok c.insert_all-2.ensures.ok

pub returns-clause-beside : goal.returns-clause-beside
returns-clause-beside t c =
    all_beside_ok c.insert_all-2.result c.args.self.now c.insert_at.new.self c.insert_all.new.self c.insert_all-2.new.self c.args.seat c.select_nth_unstable_by-front.result.1.now c.widest-axis.result c.in_ok-key.key c.in_ok-key.ensures.below
    c.in_ok-insert_all.ensures.beside c.insert_all-2.ensures.beside

pub returns-clause-low : goal.returns-clause-low
returns-clause-low t c =
    low_parts_ok c.insert_all-2.result c.args.self.now c.insert_at.new.self c.insert_all.new.self c.insert_all-2.new.self c.args.seat c.select_nth_unstable_by-front.result.1.now c.widest-axis.result c.in_ok-key.key
    (length c.select_nth_unstable_by-front.result.0.now) (length c.select_nth_unstable_by-front.result.2.now) (length c.args.spots.now) c.in_ok-key.ensures.below c.in_ok-insert_all.ensures.low c.insert_all-2.ensures.low
    (halves_length c.args.spots.now c.select_nth_unstable_by-front.result.0.now c.select_nth_unstable_by-front.result.2.now c.select_nth_unstable_by-front.result.1.now c.select_nth_unstable_by-front.ensures.permutation)
    (front_half (length c.args.spots.now) (length c.select_nth_unstable_by-front.result.0.now) c.select_nth_unstable_by-front.ensures.front_len)
    (back_half (length c.args.spots.now) (length c.select_nth_unstable_by-front.result.0.now) (length c.select_nth_unstable_by-front.result.2.now) c.select_nth_unstable_by-front.ensures.front_len
    (halves_length c.args.spots.now c.select_nth_unstable_by-front.result.0.now c.select_nth_unstable_by-front.result.2.now c.select_nth_unstable_by-front.result.1.now c.select_nth_unstable_by-front.ensures.permutation))
