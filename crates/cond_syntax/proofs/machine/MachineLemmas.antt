-- Reading from token to token finds just what the grammar spells.
use Rattle.std.specs.Prelude.{◌≡◌, Bool, true, false, List, [], ◌++◌, Option, Some, None, refl}
use Rattle.std.proofs.Common.{sym, ◌∙◌, ap, subst, append-nil}
use Rattle.cond_syntax.specs.Tokens.{Token}
use Rattle.cond_syntax.specs.WrittenConditions.{WrittenCondition}
use Rattle.cond_syntax.specs.Grammar.{IsCondition}
use Rattle.cond_syntax.specs.Fronts.{front_of, is_cut, IsOfForm}
use Rattle.cond_syntax.proofs.machine.Machine.{ReadingState, Operand, Wrong, Cut, Whole, whole, whole_or_wrong, run, ended, reading_of}
use Rattle.cond_syntax.proofs.machine.GrammarToMachine.{spelled_runs, run_none, run_append}
use Rattle.cond_syntax.proofs.machine.MachineToGrammar.{Holds, HoldsIfAny, IsSpelledIfAny, run_holds, whole_holds}
use Rattle.cond_syntax.proofs.machine.Continuations.{SpellsSome, rest_of, goes_on}
use Rattle.cond_syntax.proofs.grammar.FrontLemmas.{front_whole}

-- ---- what reading came to

whole_given : (read : Option WrittenCondition) (c : WrittenCondition) → whole_or_wrong read ≡ Whole c → read ≡ Some c
whole_given None c is = absurd (cc)
whole_given (Some d) c is = cc

never_cut : (read : Option WrittenCondition) → whole_or_wrong read ≡ Cut → ⊥
never_cut None is = cc
never_cut (Some d) is = cc

whole_ended : (cut : Bool) (o : Option ReadingState) (c : WrittenCondition) → ended cut o ≡ Whole c → (s : ReadingState) × (o ≡ Some s) × (whole s ≡ Some c) × (cut ≡ false)
whole_ended cut None c is = absurd (cc)
whole_ended true (Some s) c is = absurd (cc)
whole_ended false (Some s) c is = (s, refl, whole_given (whole s) c is, refl)

cut_ended : (cut : Bool) (o : Option ReadingState) → ended cut o ≡ Cut → (s : ReadingState) × (o ≡ Some s) × (cut ≡ true)
cut_ended cut None is = absurd (cc)
cut_ended true (Some s) is = (s, refl, refl)
cut_ended false (Some s) is = absurd (never_cut (whole s) is)

wrong_ended : (cut : Bool) (o : Option ReadingState) (more : List Token) (s : ReadingState) (c : WrittenCondition) → (cut ≡ false → more ≡ []) → run o more ≡ Some s → whole s ≡ Some c
    → ended cut o ≡ Wrong → ⊥
wrong_ended cut None more s c none ran is wrong = let nothing : None ≡ Some s = sym (run_none more) ∙ ran in cc
wrong_ended true (Some t) more s c none ran is wrong = cc
wrong_ended false (Some t) more s c none ran is wrong =
    let same : Some t ≡ Some s = ap (λ ts. run (Some t) ts) (sym (none refl)) ∙ ran in
    let read : whole t ≡ Some c = cc in
    let right : Whole c ≡ Wrong = ap whole_or_wrong (sym read) ∙ wrong in
    cc

-- ---- what the tokens are that led there

read_so_far : (ts more : List Token) (s : ReadingState) → run (Some (Operand [])) ts ≡ Some s → Holds (ts ++ more) s more
read_so_far ts more s ran = let Kept : Option ReadingState → Type 0 = λ o. HoldsIfAny (ts ++ more) o more in
    subst Kept ran (run_holds (ts ++ more) ts more (Some (Operand [])) refl)

read_whole : (ts : List Token) (s : ReadingState) (c : WrittenCondition) → run (Some (Operand [])) ts ≡ Some s → whole s ≡ Some c → IsCondition (ts ++ []) [] c
read_whole ts s c ran is = let Spelled : Option WrittenCondition → Type 0 = λ o. IsSpelledIfAny (ts ++ []) o in
    subst Spelled is (whole_holds (ts ++ []) s (read_so_far ts [] s ran))

-- ---- what a reading says of the tokens

-- a whole reading is spelled
pub whole_is_spelled : (ts : List Token) (c : WrittenCondition) → reading_of ts ≡ Whole c → IsCondition ts [] c
whole_is_spelled ts c is =
    let end = whole_ended (is_cut ts) (run (Some (Operand [])) (front_of ts)) c is in
    let Spelled : List Token → Type 0 = λ us. IsCondition us [] c in
    subst Spelled (append-nil (front_of ts) ∙ front_whole ts end.3) (read_whole (front_of ts) end.0 c end.1 end.2)

pub whole_is_not_cut : (ts : List Token) (c : WrittenCondition) → reading_of ts ≡ Whole c → is_cut ts ≡ false
whole_is_not_cut ts c is = (whole_ended (is_cut ts) (run (Some (Operand [])) (front_of ts)) c is).3

pub cut_is_cut : (ts : List Token) → reading_of ts ≡ Cut → is_cut ts ≡ true
cut_is_cut ts is = (cut_ended (is_cut ts) (run (Some (Operand [])) (front_of ts)) is).2

-- what is spelled is read
pub spelled_is_whole : (ts : List Token) (c : WrittenCondition) → is_cut ts ≡ false → IsCondition ts [] c → reading_of ts ≡ Whole c
spelled_is_whole ts c uncut spelled =
    let all = spelled_runs spelled in
    ap (λ cut. ended cut (run (Some (Operand [])) (front_of ts))) uncut
    ∙ ap (λ us. ended false (run (Some (Operand [])) us)) (front_whole ts uncut)
    ∙ ap (λ o. ended false o) all.1
    ∙ ap whole_or_wrong all.2

pub whole_has_form : (ts : List Token) (c : WrittenCondition) → reading_of ts ≡ Whole c → IsOfForm ts
whole_has_form ts c is =
    let end = whole_ended (is_cut ts) (run (Some (Operand [])) (front_of ts)) c is in
    record { more = []; whole = λ uncut. refl; tree = c; condition = read_whole (front_of ts) end.0 c end.1 end.2 }

-- what can be read as far as it is read can go on to a condition
pub cut_has_form : (ts : List Token) → reading_of ts ≡ Cut → IsOfForm ts
cut_has_form ts is =
    let end = cut_ended (is_cut ts) (run (Some (Operand [])) (front_of ts)) is in
    let more : List Token = rest_of end.0 in
    let some : SpellsSome (front_of ts ++ more) = goes_on (front_of ts ++ more) end.0 (read_so_far (front_of ts) more end.0 end.1) in
    record { more = more; whole = λ uncut. absurd (cc (uncut, end.2)); tree = some.tree; condition = some.spelled }

pub wrong_has_no_form : (ts : List Token) → reading_of ts ≡ Wrong → IsOfForm ts → ⊥
wrong_has_no_form ts is form =
    let all = spelled_runs form.condition in
    wrong_ended (is_cut ts) (run (Some (Operand [])) (front_of ts)) form.more all.0 form.tree form.whole
    (sym (run_append (Some (Operand [])) (front_of ts) form.more) ∙ all.1) all.2 is
