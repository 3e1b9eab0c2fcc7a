-- The inlined table, and the table written with one buffer or another. Assumes nothing.
use Rattle.std.proofs.Common.{Option, None, Some, Result, Ok, Err}
use Prim.Native.Nat.{ℕ, ◌<◌, ◌≤◌}
use mathlib.Core.Path.{◌≡◌, refl, sym, ap, ◌∙◌}
use mathlib.Core.List.{List}
use native.Mathlib.Omega.{arith}
use native.Mathlib.Decide.{dec_lt}
use lib.ListN.{length, take, length-take}
use Rattle.std.specs.Option.{unwrap_or}
use Rattle.rules.specs.InlineGroups.{inlined}
use Rattle.rules.specs.Replies.{answered, flagged, by_size}
use Rattle.rules.specs.declared.Record.{Record}
use Rattle.rules.specs.declared.Reply.{Reply}
use Rattle.rules.specs.declared.Reply.TheVariants.{Swollen, Unfit}
use Rattle.rules.specs.declared.FieldKey.{FieldKey}
use Rattle.inline_groups.specs.Inlinings.{inlining, inlining_records}
use Rattle.inline_groups.specs.declared.InlineError.{InlineError}
use Rattle.inline_groups.specs.declared.InlineError.TheVariants as errors
use Rattle.inline_groups.proofs.Replies.{reply-swollen, reply-unfit, reply-inlined, few-records, written-records, enough-room}
use Rattle.accepted_table.specs.Wrote.{Wrote}

-- the inlined table
module _ (rs : List Record) (m : ℕ) {x : Result ℕ InlineError} (e : x ≡ inlining m (inlined rs)) (t : List ℕ) where
  pub told-swollen : x ≡ Err errors.Swollen → Wrote m rs t t (Some Swollen)
  unfolding Wrote
  told-swollen h f = reply-swollen m (inlined rs) t f (sym e ∙ h)

  pub told-short : x ≡ Err errors.BufferShort → Wrote m rs t t None
  unfolding Wrote
  told-short h = (refl, go (dec_lt m 1600))
    where
      go : Dec (m < 1600) → m < 1600
      go (yes z) = z
      go (no z) = absurd (enough-room m (inlined rs) (omega (arith, z)) (sym e ∙ h))

  pub told-unfit : (k : FieldKey) → x ≡ Err (errors.Unfit k) → Wrote m rs t t (Some (Unfit k))
  unfolding Wrote
  told-unfit k h f = reply-unfit m (inlined rs) t f k (sym e ∙ h)

pub few-taken : (l : List Record) (m : ℕ) → m ≤ 1600 → length (take m l) ≤ 1600
few-taken l m h = omega (arith, length-take m l)

-- what inlining wrote
module _ (rs : List Record) {x : Result ℕ InlineError} (b : List Record) (e : x ≡ inlining (length b) (inlined rs))
    {b' : List Record} (w : b' ≡ inlining_records b (inlined rs)) (n : ℕ) (h : x ≡ Ok n) where
  pub inlined-few : (n ≤ 1600) × (n ≡ length (inlined rs)) × (n ≤ length b)
  inlined-few = few-records (length b) (inlined rs) n (sym e ∙ h)

  -- of as many records as were written, however their number is told
  pub told-inlined : (o : List ℕ) (r : Reply) {o' : List ℕ} {m : ℕ} → m ≡ n
      → ((f : List ℕ) → answered r o' f ≡ flagged (take m b') o f) → Wrote (length b) rs o o' (Some r)
  unfolding Wrote
  told-inlined o r q d f = (rw (q, w, written-records b (inlined rs) n (sym e ∙ h)) at (d f)) ∙ reply-inlined (length b) (inlined rs) o f n (sym e ∙ h)

-- the table, written with room for m records
module _ (m : ℕ) (rs : List Record) (t t' : List ℕ) (x : Option Reply) (w : Wrote m rs t t' x) where
  pub wrote-done : (r : Reply) → x ≡ Some r → (f : List ℕ) → answered r t' f ≡ by_size (inlined rs) t f
  unfolding Wrote
  wrote-done r h = rw h at w

  wrote-short : x ≡ None → (t' ≡ t) × (m < 1600)
  unfolding Wrote
  wrote-short h = rw h at w

  -- with room for 1,600 records it is written, whatever would be answered else
  pub wrote-or : 1600 ≤ m → (d : Reply) (f : List ℕ) → answered (unwrap_or x d) t' f ≡ by_size (inlined rs) t f
  unfolding Wrote
  wrote-or z d f = elim x as (λ y. Wrote m rs t t' y → answered (unwrap_or y d) t' f ≡ by_size (inlined rs) t f) [
    | Some r ↦ λ v. v f
    | None ↦ λ v. absurd (omega (arith, z, v.1))
  ] w

  -- the second time, on the same table buffer
  pub wrote-again : (r : Reply) {t'' : List ℕ} → x ≡ None → ((f : List ℕ) → answered r t'' f ≡ by_size (inlined rs) t' f)
      → (f : List ℕ) → answered r t'' f ≡ by_size (inlined rs) t f
  wrote-again r h d f = d f ∙ ap (λ (y : List ℕ). by_size (inlined rs) y f) (wrote-short h).0
