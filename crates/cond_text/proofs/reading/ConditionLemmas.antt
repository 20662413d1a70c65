-- What is found where reading tokens comes to an end.
use Rattle.std.proofs.Common.{◌≡◌, ℕ, ◌<◌, ◌⊎◌, inl, inr, Bool, true, false, List, Some, None, ◌∙◌, refl}
use Rattle.gx_base.specs.declared.kinds.Kind.{Kind}
use Rattle.gx_base.specs.Kinds.{kind_number}
use Rattle.gx_base.specs.Conditions.{Condition}
use Rattle.cond_syntax.specs.Tokens.{Token}
use Rattle.cond_syntax.specs.WrittenConditions.{WrittenCondition, depth_of, condition_in}
use Rattle.cond_syntax.specs.Fronts.{front_of, all_known}
use Rattle.cond_terms.specs.Machine.{Cut, Whole, reading_of}
use Rattle.cond_syntax.specs.TableTexts.{most_deep}
use Rattle.cond_syntax.proofs.CallerLemmas.{whole_is_spelled, whole_is_not_cut, whole_has_form, cut_is_cut, cut_has_form, known_words, unknown_word, front_whole}
use Rattle.cond_text.specs.Answered.{found_of}
use Rattle.cond_text.specs.Drafts.{IsDraft}
use Rattle.cond_text.specs.Found.{IsFound}
use Rattle.cond_text.specs.declared.drafts.Draft.{Draft}
use Rattle.cond_text.specs.declared.drafts.Draft.TheVariants.{Lost, Kept}

-- reading stops at one parenthesis too many
pub cut_found : (kind : Kind) (ts : List Token) (known : Bool) → reading_of ts ≡ Cut → all_known (kind_number kind) false (front_of ts) ≡ known → IsFound kind ts (found_of Lost known)
cut_found kind ts true is known = (cut_has_form ts is, known, inl (cut_is_cut ts is))
cut_found kind ts false is known = (cut_has_form ts is, known)

-- all tokens are read, so that the words among them are those of the condition
known_whole : (kind : ℕ) (ts : List Token) (w : WrittenCondition) (known : Bool) → reading_of ts ≡ Whole w → all_known kind false (front_of ts) ≡ known → all_known kind false ts ≡ known
known_whole kind ts w known is words =
    let front = front_whole ts (whole_is_not_cut ts w is) in
    rw front at words

-- some word is known to a condition, or none
some_is_known : (kind : ℕ) (ts : List Token) (w : WrittenCondition) (d : Condition) (known : Bool) → reading_of ts ≡ Whole w → all_known kind false (front_of ts) ≡ known → condition_in kind w ≡ Some d → known ≡ true
some_is_known kind ts w d true is words means = refl
some_is_known kind ts w d false is words means =
    let none = unknown_word kind ts w (whole_is_spelled ts w is) (known_whole kind ts w false is words) in
    absurd (cc)

none_too_deep : (kind : ℕ) (ts : List Token) (w : WrittenCondition) → reading_of ts ≡ Whole w → all_known kind false (front_of ts) ≡ true → (most_deep < depth_of w) ⊎ (condition_in kind w ≡ None) → most_deep < depth_of w
none_too_deep kind ts w is words (inl deep) = deep
none_too_deep kind ts w is words (inr none) =
    let some = known_words kind ts w (whole_is_spelled ts w is) (known_whole kind ts w true is words) in
    let given : condition_in kind w ≡ Some some.0 = some.1 in
    absurd (cc)

-- all tokens are read
pub whole_found : (kind : Kind) (ts : List Token) (w : WrittenCondition) (draft : Draft) (known : Bool) → reading_of ts ≡ Whole w → IsDraft (kind_number kind) w draft → all_known (kind_number kind) false (front_of ts) ≡ known → IsFound kind ts (found_of draft known)
whole_found kind ts w (Kept cond depth) known is kept words =
    let all = some_is_known (kind_number kind) ts w _ known is words kept.2 in (
      whole_has_form ts w is,
      words ∙ all,
      record {
        shallow = whole_is_not_cut ts w is;
        tree = w;
        spelled = whole_is_spelled ts w is;
        means = kept.2;
        depth = rw (← kept.0) kept.1;
      },
    )
whole_found kind ts w Lost true is kept words =
    (whole_has_form ts w is, words, inr (w, whole_is_spelled ts w is, none_too_deep (kind_number kind) ts w is words kept))
whole_found kind ts w Lost false is kept words = (whole_has_form ts w is, words)
