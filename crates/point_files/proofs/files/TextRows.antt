-- The rows of a text: each text has one list of them, and each takes a byte at least.
use Rattle.std.proofs.Common.{◌≡◌, ℕ, suc, zero, ◌+◌, ◌<◌, ◌≤◌, ◌==◌, Bool, true, false, if◌then◌else◌, List, [], ◌∷◌, ◌++◌, length, Option, Some, None, refl, sym, ap, subst, ◌∙◌, arith}
use Rattle.csv.specs.Machine.{Read, next_record, step, is_end, ends_at_end, fields_after, field_after, in_field, start_field, start_record, ends_with, after_end, carriage_return, line_feed}
use Rattle.csv.specs.Reading.{AreRecords, Reached, default_config, strip_bom, is_bom}
use Rattle.csv.specs.declared.parser.Config.{Config}
use Rattle.csv.specs.declared.parser.State.{State}
use Rattle.csv.specs.declared.parser.State.TheVariants as st
use Rattle.csv.specs.declared.parser.Action.{Action}
use Rattle.csv.specs.declared.parser.Terminator.TheVariants as term
use Rattle.csv.specs.declared.parser.Action.TheVariants as act
use Rattle.point_files.specs.PointRows.{FileRow}

-- ---- where a record ends

-- where the action ends a record, no field is begun
abbrev Rests : State × Action → Type 0
Rests p = is_end p.1 ≡ true → ends_at_end p.0 ≡ false

choose : (b : Bool) (p q : State × Action) → Rests p → Rests q → Rests (if b then p else q)
choose true p q h k = h
choose false p q h k = k

no_end : (s : State) → Rests (s, act.Skip)
no_end s e = absurd (cc)

copies : (s : State) → Rests (s, act.Copy)
copies s e = absurd (cc)

ends : (b : Bool) → Rests ((if b then st.AfterCr else st.StartRecord), act.EndRecord)
ends true e = refl
ends false e = refl

in_field-rests : (c : ℕ) → Rests (in_field default_config c)
in_field-rests c =
    choose (c == 44) (st.StartField, act.EndField) (if ends_with term.CRLF c then (after_end term.CRLF c, act.EndRecord) else (st.InField, act.Copy)) (λ e. absurd (cc))
    (choose (ends_with term.CRLF c) (after_end term.CRLF c, act.EndRecord) (st.InField, act.Copy) (ends (c == carriage_return)) (copies st.InField))

start_field-rests : (c : ℕ) → Rests (start_field default_config c)
start_field-rests c = choose (c == 34) (st.InQuoted, act.Skip) (in_field default_config c) (no_end st.InQuoted) (in_field-rests c)

start_record-rests : (c : ℕ) → Rests (start_record default_config c)
start_record-rests c = choose (ends_with term.CRLF c) (st.StartRecord, act.Skip) (start_field default_config c) (no_end st.StartRecord) (start_field-rests c)

step-rests : (s : State) (c : ℕ) → Rests (step default_config s c)
step-rests st.StartRecord c = start_record-rests c
step-rests st.StartField c = start_field-rests c
step-rests st.InField c = in_field-rests c
step-rests st.InQuoted c = choose (c == 34) (st.AfterQuote, act.Skip) (st.InQuoted, act.Copy) (no_end st.AfterQuote) (copies st.InQuoted)
step-rests st.InEscape c = copies st.InQuoted
step-rests st.AfterQuote c = choose (c == 34) (st.InQuoted, act.Copy) (in_field default_config c) (copies st.InQuoted) (in_field-rests c)
step-rests st.InComment c = choose (c == line_feed) (st.StartRecord, act.Skip) (st.InComment, act.Skip) (no_end st.StartRecord) (no_end st.InComment)
step-rests st.AfterCr c = choose (c == line_feed) (st.StartRecord, act.Skip) (start_record default_config c) (no_end st.StartRecord) (start_record-rests c)

abbrev some_read : Read → Option Read
some_read p = Some p

same_read : (p q : Read) → some_read p ≡ some_read q → p ≡ q
same_read p q e = cc

-- after a record no field is begun, and what is left is no more than what stood after its first byte
abbrev Ended : List ℕ → Read → Type 0
Ended rest p = (ends_at_end p.1 ≡ false) × (length p.2 ≤ length rest)

at_end : (b : Bool) (row : FileRow) (rest : List ℕ) (p : Read) → (if b then Some (row, st.StartRecord, []) else None) ≡ some_read p → Ended rest p
at_end true row rest p e = subst (Ended rest) (same_read (row, st.StartRecord, []) p e) (refl, omega arith)
at_end false row rest p e = absurd (cc)

one_byte : (b : Bool) (now : Read) (later : Option Read) (rest : List ℕ) (p : Read) → (b ≡ true → ends_at_end now.1 ≡ false) → length now.2 ≤ length rest → (later ≡ some_read p → Ended rest p)
    → (if b then Some now else later) ≡ some_read p → Ended rest p
one_byte true now later rest p h k m e = subst (Ended rest) (same_read now p e) (h refl, k)
one_byte false now later rest p h k m e = m e

next-ended : (s : State) (fields : FileRow) (field : List ℕ) (c : ℕ) (rest : List ℕ) (p : Read) → next_record default_config s fields field (c ∷ rest) ≡ some_read p → Ended rest p
unfolding next_record
next-ended s fields field c [] p e =
    one_byte (is_end (step default_config s c).1) _ _ [] p (step-rests s c) (omega arith) (λ f. at_end (ends_at_end (step default_config s c).0) _ [] p f) e
next-ended s fields field c (d ∷ rest) p e =
    one_byte (is_end (step default_config s c).1) _ _ (d ∷ rest) p (step-rests s c) (omega arith)
    (λ f.
    let more : Ended rest p = next-ended (step default_config s c).0 _ _ d rest p f in
    (more.0, omega (arith, more.1)))
    e

none_begun : (b : Bool) (row : FileRow) (p : Read) → b ≡ false → (if b then Some (row, st.StartRecord, []) else None) ≡ some_read p → ⊥
none_begun true row p h e = cc
none_begun false row p h e = cc

-- where no field is begun, a record takes a byte
pub next-shorter : (s : State) (xs : List ℕ) (p : Read) → ends_at_end s ≡ false → next_record default_config s [] [] xs ≡ some_read p → (ends_at_end p.1 ≡ false) × (length p.2 < length xs)
unfolding next_record
next-shorter s [] p h e = absurd (none_begun (ends_at_end s) _ p h e)
next-shorter s (c ∷ rest) p h e =
    let ended : Ended rest p = next-ended s [] [] c rest p e in
    (ended.0, omega (arith, ended.1))

-- ---- many records

pub rests : (s t : State) (xs ys : List ℕ) (rows : List FileRow) → ends_at_end s ≡ false → Reached default_config s xs rows t ys → (ends_at_end t ≡ false) × (length rows + length ys ≤ length xs)
unfolding Reached
rests s t xs ys [] h r = (subst (λ (u : State). ends_at_end u ≡ false) r.0 h, omega (arith, ap length r.1))
rests s t xs ys (row ∷ rows) h r =
    let p = r.0 in
    let shorter = next-shorter s xs p h r.1 in
    let more = rests p.1 t p.2 ys rows shorter.0 r.3 in
    (more.0, omega (arith, more.1, shorter.1))

-- the rows that follow from where no field is begun
abbrev Rest : State → List ℕ → Type 0
Rest s xs = (rows : List FileRow) × AreRecords default_config s xs rows

rest_by : (n : ℕ) (s : State) (xs : List ℕ) → ends_at_end s ≡ false → length xs ≤ suc n → ((t : State) (ys : List ℕ) → ends_at_end t ≡ false → length ys ≤ n → Rest t ys) → (o : Option Read) → next_record default_config s [] [] xs ≡ o → Rest s xs
unfolding Reached
rest_by n s xs h le later None e = ([], (s, xs, (refl, refl), e))
rest_by n s xs h le later (Some p) e =
    let shorter = next-shorter s xs p h e in
    let more = later p.1 p.2 shorter.0 (omega (arith, shorter.1)) in
    (p.0 ∷ more.0, (more.1.0, more.1.1, (p, e, refl, more.1.2), more.1.3))

no_rest : (s : State) (xs : List ℕ) → ends_at_end s ≡ false → length xs ≤ 0 → (o : Option Read) → next_record default_config s [] [] xs ≡ o → Rest s xs
unfolding Reached
no_rest s xs h le None e = ([], (s, xs, (refl, refl), e))
no_rest s xs h le (Some p) e = absurd (let shorter = next-shorter s xs p h e in omega (arith, shorter.1))

pub rows_from : (n : ℕ) (s : State) (xs : List ℕ) → ends_at_end s ≡ false → length xs ≤ n → (rows : List FileRow) × AreRecords default_config s xs rows
rows_from zero s xs h le = no_rest s xs h le (next_record default_config s [] [] xs) refl
rows_from (suc n) s xs h le = rest_by n s xs h le (rows_from n) (next_record default_config s [] [] xs) refl

pub rows_after : (s t : State) (xs ys : List ℕ) (rows more : List FileRow) → Reached default_config s xs rows t ys → AreRecords default_config t ys more → AreRecords default_config s xs (rows ++ more)
unfolding Reached
rows_after s t xs ys [] more r are =
    subst (λ (zs : List ℕ). AreRecords default_config s zs more) (sym r.1) (subst (λ (u : State). AreRecords default_config u ys more) (sym r.0) are)
rows_after s t xs ys (row ∷ rows) more r are =
    let p = r.0 in
    let rest = rows_after p.1 t p.2 ys rows more r.3 are in
    (rest.0, rest.1, (p, r.1, r.2, rest.2), rest.3)

-- a text has one list of rows
pub same_rows : (s : State) (xs : List ℕ) (rows others : List FileRow) → AreRecords default_config s xs rows → AreRecords default_config s xs others → rows ≡ others
unfolding Reached
same_rows s xs [] [] a b = refl
same_rows s xs [] (q ∷ qs) a b =
    let none : next_record default_config s [] [] xs ≡ None = ap (λ (t : State). next_record default_config t [] [] xs) a.2.0 ∙ ap (λ (ys : List ℕ). next_record default_config a.0 [] [] ys) a.2.1 ∙ a.3 in
    absurd (let e : some_read b.2.0 ≡ None = sym b.2.1 ∙ none in cc)
same_rows s xs (r ∷ rs) [] a b =
    let none : next_record default_config s [] [] xs ≡ None = ap (λ (t : State). next_record default_config t [] [] xs) b.2.0 ∙ ap (λ (ys : List ℕ). next_record default_config b.0 [] [] ys) b.2.1 ∙ b.3 in
    absurd (let e : some_read a.2.0 ≡ None = sym a.2.1 ∙ none in cc)
same_rows s xs (r ∷ rs) (q ∷ qs) a b =
    let p = a.2 in
    let o = b.2 in
    let same : p.0 ≡ o.0 = same_read p.0 o.0 (sym p.1 ∙ o.1) in
    let rest : AreRecords default_config p.0.1 p.0.2 rs = (a.0, a.1, p.3, a.3) in
    let other : AreRecords default_config p.0.1 p.0.2 qs = subst (λ (t : Read). AreRecords default_config t.1 t.2 qs) (sym same) (b.0, b.1, o.3, b.3) in
    let tails : rs ≡ qs = same_rows p.0.1 p.0.2 rs qs rest other in
    let heads : r ≡ q = p.2 ∙ ap (λ (t : Read). t.0) same ∙ sym o.2 in
    ap (λ (x : FileRow). x ∷ rs) heads ∙ ap (λ (l : List FileRow). q ∷ l) tails

-- ---- without a byte order mark

shorter_if : (b : Bool) (rest xs : List ℕ) → length rest ≤ length xs → length (if b then rest else xs) ≤ length xs
shorter_if true rest xs le = le
shorter_if false rest xs le = omega arith

pub strip_bom-shorter : (xs : List ℕ) → length (strip_bom xs) ≤ length xs
unfolding strip_bom
strip_bom-shorter [] = omega arith
strip_bom-shorter (a ∷ []) = omega arith
strip_bom-shorter (a ∷ b ∷ []) = omega arith
strip_bom-shorter (a ∷ b ∷ c ∷ rest) = shorter_if (is_bom a b c) rest (a ∷ b ∷ c ∷ rest) (omega arith)
