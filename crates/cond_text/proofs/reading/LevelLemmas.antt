-- What frames come to once a unit has been read.
use Rattle.std.proofs.Common.{◌≡◌, ℕ, zero, suc, List, ◌∷◌, Option, Some, None, refl, ap, sym, ◌∙◌}
use Rattle.cond_syntax.specs.WrittenConditions.{WrittenCondition, Not}
use Rattle.cond_terms.specs.Machine.{Frame, OrLeft, Operand, Done, unit_done, or_read, close_read}
use Rattle.cond_text.specs.Drafts.{IsDraft, IsLeft, negated_by, both_of, either_of}
use Rattle.cond_text.specs.declared.drafts.Draft.{Draft}
use Rattle.cond_text.specs.Levels.{outside, or_frames, and_frames, not_frames}

-- the inner `not` is the last
negated_by-not : (nots : ℕ) (unit : WrittenCondition) → negated_by nots (Not unit) ≡ Not (negated_by nots unit)
negated_by-not zero unit = refl
negated_by-not (suc nots) unit = ap Not (negated_by-not nots unit)

pub unit_done-not : (nots : ℕ) (unit : WrittenCondition) (frames : List Frame) → unit_done unit (not_frames nots frames) ≡ unit_done (negated_by nots unit) frames
unit_done-not zero unit frames = refl
unit_done-not (suc nots) unit frames = unit_done-not nots (Not unit) frames ∙ ap (λ u. unit_done u frames) (negated_by-not nots unit)

pub unit_done-and : (and_left or_left : Option WrittenCondition) (base : Option (List Frame)) (unit : WrittenCondition) → unit_done unit (and_frames and_left (or_frames or_left (outside base))) ≡ Done (both_of and_left unit) (or_frames or_left (outside base))
unit_done-and (Some left) or_left base unit = refl
unit_done-and None (Some left) base unit = refl
unit_done-and None None None unit = refl
unit_done-and None None (Some frames) unit = refl

pub or_read-frames : (or_left : Option WrittenCondition) (base : Option (List Frame)) (last : WrittenCondition) → or_read last (or_frames or_left (outside base)) ≡ Operand (OrLeft (either_of or_left last) ∷ outside base)
or_read-frames (Some left) base last = refl
or_read-frames None None last = refl
or_read-frames None (Some frames) last = refl

pub close_read-some : (or_left : Option WrittenCondition) (frames : List Frame) (last : WrittenCondition) → close_read last (or_frames or_left (outside (Some frames))) ≡ Some (unit_done (either_of or_left last) frames)
close_read-some (Some left) frames last = refl
close_read-some None frames last = refl

-- ---- what is kept of left sides

some_same : {A : Type 0} {x y : A} → Some x ≡ Some y → x ≡ y
some_same is = cc

pub left_given : (kind : ℕ) (left : Option WrittenCondition) (kept : Option Draft) (draft : Draft) → IsLeft kind left kept → kept ≡ Some draft → (written : WrittenCondition) × IsDraft kind written draft × (left ≡ Some written)
left_given kind None None draft is given = absurd (cc)
left_given kind None (Some kept) draft is given = absurd is
left_given kind (Some left) None draft is given = absurd is
left_given kind (Some left) (Some kept) draft is given = (left, rw (some_same (sym given)) is, refl)

pub left_missing : (kind : ℕ) (left : Option WrittenCondition) (kept : Option Draft) → IsLeft kind left kept → kept ≡ None → left ≡ None
left_missing kind None kept is missing = refl
left_missing kind (Some left) None is missing = absurd is
left_missing kind (Some left) (Some kept) is missing = absurd (cc)
