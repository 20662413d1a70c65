-- What is read of a file in memory.
use Rattle.std.proofs.Common.{◌≡◌, ◌↔◌, ℕ, zero, suc, ◌+◌, ◌<◌, ◌≤◌, min, true, List, [], ◌∷◌, length, get_or, take, drop, Some, String, Vec, refl, sym, ap, ◌∙◌, arith, string_bytes, bytes_eq}
use Rattle.std.specs.Global.{Global}
use Rattle.std.proofs.lemmas.List.{drop-drop, nil_from_length, at_drop_more}
use Rattle.gx_io.specs.Files.{Gives}
use Rattle.gx_io.specs.NamedFiles.{bytes_of, bytes_at}

abbrev File : Type 0
File = String Global × Vec ℕ Global

pub bytes_at-is : (files : List File) (n : ℕ) (file : File) → n < length files → file ≡ get_or files n file → bytes_at files n ≡ file.1.items
bytes_at-is [] n file lt e = absurd (omega (arith, lt))
bytes_at-is (first ∷ files) zero file lt e = ap (λ (f : File). f.1.items) (sym e)
bytes_at-is (first ∷ files) (suc n) file lt e = bytes_at-is files n file (omega (arith, lt)) e

pub bytes_at-past : (files : List File) (n : ℕ) → length files ≤ n → bytes_at files n ≡ []
bytes_at-past [] n le = refl
bytes_at-past (first ∷ files) zero le = absurd (omega (arith, le))
bytes_at-past (first ∷ files) (suc n) le = bytes_at-past files n (omega (arith, le))

pub gives_bytes : (bs piece : List ℕ) (at n : ℕ) → n ≡ min (length piece) (length (drop at bs)) → take n piece ≡ take n (drop at bs) → Gives (drop at bs) (Some (drop (at + n) bs)) piece n
gives_bytes bs piece at n count front = record { enough = omega arith; front = front; rest = ap (λ (r : List ℕ). Some r) (sym (drop-drop n at bs)) }

-- nothing comes exactly at the end
pub ends_bytes : (bs piece : List ℕ) (at n : ℕ) → n ≡ min (length piece) (length (drop at bs)) → 0 < length piece → ((n ≡ 0) ↔ (drop at bs ≡ []))
ends_bytes bs piece at n count some = (
  λ none. nil_from_length (drop at bs) (omega arith),
  λ ended. let none : length (drop at bs) ≡ 0 = ap length ended in omega arith,
)

pub found_at : (files : List File) (name : List ℕ) (n : ℕ) (file : File) → n < length files → file ≡ get_or files n file → bytes_eq (string_bytes file.0) name ≡ true → bytes_of files name ≡ bytes_of (drop n files) name → bytes_of files name ≡ Some (bytes_at files n)
found_at files name n file lt e same so_far =
    let step : bytes_of (drop n files) name ≡ bytes_of (get_or files n file ∷ drop (n + 1) files) name = at_drop_more (λ (fs : List File). bytes_of fs name) files n file lt in
    let here : bytes_of (file ∷ drop (n + 1) files) name ≡ Some file.1.items = rw same refl in
    let moved : bytes_of (get_or files n file ∷ drop (n + 1) files) name ≡ Some file.1.items = rw (← e) here in
    so_far ∙ step ∙ moved ∙ ap (λ (r : List ℕ). Some r) (sym (bytes_at-is files n file lt e))
