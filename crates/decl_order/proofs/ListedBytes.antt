-- The listed declarations as bytes: what stands at their places in a table of bytes decodes to the records that pass 2 lists. Assumes nothing.
use Rattle.std.proofs.lemmas.Grind.{common_steps}
use Prim.Native.Nat.{ℕ, zero, suc, ◌+◌, ◌*◌, ◌/◌, ◌<◌, ◌≤◌}
use mathlib.Core.Path.{◌≡◌, refl, sym, ap, ◌∙◌}
use mathlib.Core.List.{List, [], ◌∷◌, ◌++◌, Memᴰ}
use native.Mathlib.Nat.{suc-add}
use native.Mathlib.Omega.{arith}
use lib.ListN.{length, take, drop, length-append, length-drop, take-append-drop, get_or-append}
use lib.Seq.{length-take-le, take_at, drop_at, drop-append-le}
use Rattle.rules.specs.Bytes.{number_at}
use Rattle.rules.specs.Table.{record_at, records, decode}
use Rattle.rules.specs.Places.{member_count}
use Rattle.rules.specs.DeclIdentifiers.{decl_records, all_records}
use Rattle.records.proofs.Laws.{length-decode}
use Rattle.decl_order.specs.Bytes.{decl_bytes, all_bytes}
use Rattle.decl_order.proofs.Copies.{count_fits}

number_at-append : (xs ys : List ℕ) (w i : ℕ) → i + w ≤ length xs → number_at (xs ++ ys) i w ≡ number_at xs i w
unfolding number_at
number_at-append xs ys zero i h = refl
number_at-append xs ys (suc w) i h = rw (get_or-append xs ys 0 i (omega arith), number_at-append xs ys w (i + 1) (omega arith))

record-append : (xs ys : List ℕ) → 40 ≤ length xs → record_at (xs ++ ys) 0 ≡ record_at xs 0
record-append xs ys h = grind (arith, common_steps, get_or-append xs ys 0, number_at-append xs ys)

records-append : (m k : ℕ) (xs ys : List ℕ) → length xs ≡ 40 * m → records (m + k) (xs ++ ys) ≡ records m xs ++ records k ys
unfolding records
records-append zero k xs ys e = grind (arith, common_steps)
records-append (suc m) k xs ys e = grind (arith, common_steps, record-append xs ys, records-append m k (drop 40 xs) ys, length-drop 40 xs, suc-add m k, drop-append-le 40 xs ys)

decode-append : (m : ℕ) (xs ys : List ℕ) → length xs ≡ 40 * m → decode (xs ++ ys) ≡ decode xs ++ decode ys
unfolding decode
decode-append m xs ys e =
    let a : length (xs ++ ys) / 40 ≡ m + length ys / 40 = omega (arith, length-append xs ys) in
    let b : length xs / 40 ≡ m = omega arith in
    rw (a, b) (records-append m (length ys / 40) xs ys e)

module _ (t : List ℕ) (d : ℕ) (h : 40 * d ≤ length t) where
  decode-split : decode t ≡ decode (take (40 * d) t) ++ decode (drop (40 * d) t)
  decode-split = ap decode (sym (take-append-drop (40 * d) t)) ∙ decode-append d (take (40 * d) t) (drop (40 * d) t) (length-take-le (40 * d) t h)

  decoded : length (decode (take (40 * d) t)) ≡ d
  decoded = length-decode (take (40 * d) t) ∙ omega (arith, length-take-le (40 * d) t h)

  decode-take : decode (take (40 * d) t) ≡ take d (decode t)
  decode-take = sym (ap (take d) decode-split ∙ take_at (decode (take (40 * d) t)) (decode (drop (40 * d) t)) d decoded)

  decode-drop : decode (drop (40 * d) t) ≡ drop d (decode t)
  decode-drop = sym (ap (drop d) decode-split ∙ drop_at (decode (take (40 * d) t)) (decode (drop (40 * d) t)) d decoded)

module _ (t : List ℕ) (d : ℕ) (l : d < length (decode t)) where
  pub place_in : 40 * (d + (1 + member_count (decode t) d)) ≤ length t
  place_in = omega (arith, count_fits (decode t) d l, length-decode t)

  pub bytes-length : length (decl_bytes t d) ≡ 40 * (1 + member_count (decode t) d)
  unfolding decl_bytes
  bytes-length = length-take-le (40 * (1 + member_count (decode t) d)) (drop (40 * d) t) (omega (arith, place_in, length-drop (40 * d) t))

  bytes-decode : decode (decl_bytes t d) ≡ decl_records (decode t) d
  unfolding decl_bytes decl_records
  bytes-decode = grind (arith, common_steps, decode-take (drop (40 * d) t) (1 + member_count (decode t) d), decode-drop t d, place_in, length-drop (40 * d) t)

pub all-decode : (t l : List ℕ) → ((d : ℕ) → Memᴰ d l → d < length (decode t)) → decode (all_bytes t l) ≡ all_records (decode t) l
unfolding all_bytes all_records decode records
all-decode t [] h = refl
all-decode t (d ∷ l) h =
    let i = h d (Memᴰ.head refl) in
    grind (arith, common_steps, decode-append (1 + member_count (decode t) d) (decl_bytes t d) (all_bytes t l), bytes-length t d i, bytes-decode t d i, all-decode t l (λ e m. h e (Memᴰ.tail m)))
