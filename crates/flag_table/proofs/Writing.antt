-- Laws of records written one after another. Assumes nothing.
use Prim.Native.Nat.{ℕ, zero, suc, ◌+◌, ◌*◌, ◌<◌, ◌≤◌}
use mathlib.Core.Path.{◌≡◌, refl, sym, ap, ◌∙◌}
use mathlib.Core.List.{List, [], ◌∷◌, ◌++◌, append_assoc, append-nil}
use native.Mathlib.Omega.{arith}
use native.Mathlib.Decide.{dec_lt}
use lib.ListN.{length, take, take-append-drop, length-append}
use native.Mathlib.Nat.{add-zero}
use Rattle.std.specs.Iterator.{Yields, Drains, YieldsFirst}
use Rattle.rules.specs.Bytes.{written}
use Rattle.rules.specs.Table.{record_bytes, encode}
use Rattle.rules.specs.Places.{each}
use Rattle.rules.specs.DesugarFlags.{members_start, desugared_at, desugared}
use Rattle.rules.specs.declared.Record.{Record}
use Rattle.store.proofs.Laws.{length-encode, length-written, written-more}
use Rattle.table.proofs.Laws.{each_more}
use Rattle.flag_sizes.proofs.Laws.{desugared-cases}
use Rattle.flag_table.specs.RecordsAppended.{put, RecordsAppended, RoomForRecords}

encode-append : (xs ys : List Record) → encode (xs ++ ys) ≡ encode xs ++ encode ys
unfolding encode
encode-append [] ys = refl
encode-append (x ∷ xs) ys = ap (λ (l : List ℕ). record_bytes x ++ l) (encode-append xs ys) ∙ sym (append_assoc (record_bytes x) (encode xs) (encode ys))

module _ (b : List ℕ) (c : ℕ) where
  pub put-nil : put b c [] ≡ b
  unfolding put encode
  put-nil = rw (append-nil (take (40 * c) b), add-zero (40 * c)) (take-append-drop (40 * c) b)

  pub put-one : (r : Record) → put b c (r ∷ []) ≡ written b (40 * c) (record_bytes r)
  unfolding put encode
  put-one r = rw (append-nil (record_bytes r))

  pub length-put : (xs : List Record) → 40 * (c + length xs) ≤ length b → length (put b c xs) ≡ length b
  unfolding put
  length-put xs h = let l = length-encode xs in length-written b (40 * c) (encode xs) (omega arith)

  pub put_then : (xs ys : List Record) (d : ℕ) → d ≡ c + length xs → 40 * (c + length xs) ≤ length b → put (put b c xs) d ys ≡ put b c (xs ++ ys)
  unfolding put
  put_then xs ys d e h =
      let l = length-encode xs in
      let k : 40 * d ≡ 40 * c + length (encode xs) = omega arith in
      rw (k, written-more b (encode xs) (encode ys) (40 * c) (omega arith), encode-append xs ys)

-- room for records is room for the first of them, and then for the others
pub room-front : (b : List ℕ) (c : ℕ) (xs ys : List Record) → RoomForRecords b c (xs ++ ys) → RoomForRecords b c xs
room-front b c xs ys m = omega (arith, length-append xs ys, m)

pub room-rest : (b : List ℕ) (c : ℕ) (xs : List Record) {b₁ : List ℕ} {c₁ : ℕ} → RecordsAppended b c xs b₁ c₁ → (ys : List Record) → RoomForRecords b c (xs ++ ys) → RoomForRecords b₁ c₁ ys
room-rest b c xs p ys m =
    let l = length-append xs ys in
    let n = ap length p.0 ∙ length-put b c xs (omega arith) in
    omega (arith, p.1)

-- calls that gave xs and then nothing gave all that was left
yielded : {S A : Type 0} (rest : S → List A) (s t : S) (xs : List A) → Yields (YieldsFirst rest) s xs t → rest s ≡ xs ++ rest t
yielded rest s t [] e = ap rest e
yielded rest s t (x ∷ xs) y = y.1 ∙ ap (λ l. x ∷ l) (yielded rest y.0 t xs y.2)

pub drained : {S A : Type 0} (rest : S → List A) (s : S) (xs : List A) → Drains (YieldsFirst rest) s xs → rest s ≡ xs
drained rest s xs d = yielded rest s d.1.0 xs d.1.1 ∙ ap (λ l. xs ++ l) d.1.2.0 ∙ append-nil xs

pub ruleset puts = (put-nil, put-one, length-put, put_then, length-append)

pub ruleset what_becomes = (puts, desugared-cases)

-- ---- the whole table

each_rises : {A : Type 0} (f : ℕ → List A) (p n : ℕ) → p ≤ n → length (each f p) ≤ length (each f n)
unfolding each
each_rises f p zero h = let e : p ≡ 0 = omega arith in rw e (omega arith)
each_rises f p (suc n) h =
    elim (dec_lt n p) [
      | yes z ↦ let e : p ≡ suc n = omega arith in rw e (omega arith)
      | no z ↦ omega (arith, each_rises f p n (omega arith), length-append (each f n) (f n))
    ]

pub each_within : (rs : List Record) (p : ℕ) → p < length rs → length (each (desugared_at rs) p) + length (desugared_at rs p) ≤ length (desugared rs)
unfolding desugared
each_within rs p h =
    let l = length-append (each (desugared_at rs) p) (desugared_at rs p) in
    let e = ap length (each_more (desugared_at rs) p) in
    omega (arith, each_rises (desugared_at rs) (p + 1) (length rs))

pub each_none : (rs : List Record) → each (desugared_at rs) 0 ≡ []
unfolding each
each_none rs = refl

pub start-first : (rs : List Record) → members_start rs 0 ≡ 0
unfolding members_start
start-first rs = refl

pub each_all : (b : List ℕ) (rs : List Record) (p : ℕ) → p ≡ length rs → put b 0 (each (desugared_at rs) p) ≡ written b 0 (encode (desugared rs))
unfolding put desugared
each_all b rs p e = rw e

pub ruleset whole = (puts, each_more, each_within, each_none, start-first, each_all)
