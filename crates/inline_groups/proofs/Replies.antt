-- What the analyzer needs of inlining: its answer decides the reply, and the inlined records stand at the start of its buffer.
-- Assumes nothing.
use Rattle.std.proofs.Common.{Ok, Err}
use Prim.Native.Nat.{ℕ, ◌≤◌}
use mathlib.Core.Path.{◌≡◌, sym, ◌∙◌}
use mathlib.Core.List.{List, map}
use native.Mathlib.Omega.{arith}
use lib.ListN.{length, take, drop}
use lib.Seq.{take_at}
use Rattle.std.proofs.lemmas.Grind.{common_steps}
use Rattle.rules.specs.InlineGroups.{record_of}
use Rattle.rules.specs.Replies as replies
use Rattle.rules.specs.Replies.{answered, flagged, by_size}
use Rattle.rules.specs.declared.Record.{Record}
use Rattle.rules.specs.declared.Inlined.{Inlined}
use Rattle.rules.specs.declared.FieldKey.{FieldKey}
use Rattle.rules.specs.declared.Reply.TheVariants as reply
use Rattle.inline_groups.specs.declared.InlineError.TheVariants as errors
use Rattle.inline_groups.specs.Inlinings.{inlined_or_unfit, inlining, inlining_records}
use Rattle.inline_groups.proofs.Wholes.{length-records}

-- ---- what each answer for a buffer of m records says of the reply, and of the number of records

module _ (m : ℕ) (xs : List Inlined) (t f : List ℕ) where
  pub reply-swollen : inlining m xs ≡ Err errors.Swollen → answered reply.Swollen t f ≡ by_size xs t f
  unfolding inlining inlined_or_unfit by_size replies.by_unfit
  reply-swollen e = grind (arith, common_steps)

  pub reply-unfit : (k : FieldKey) → inlining m xs ≡ Err (errors.Unfit k) → answered (reply.Unfit k) t f ≡ by_size xs t f
  unfolding inlining inlined_or_unfit by_size replies.by_unfit
  reply-unfit k e = grind (arith, common_steps)

  pub reply-inlined : (n : ℕ) → inlining m xs ≡ Ok n → flagged (map record_of xs) t f ≡ by_size xs t f
  unfolding inlining inlined_or_unfit by_size replies.by_unfit
  reply-inlined n e = grind (arith, common_steps)

-- a buffer for 1,600 records is long enough
pub enough-room : (m : ℕ) (xs : List Inlined) → 1600 ≤ m → ¬ (inlining m xs ≡ Err errors.BufferShort)
unfolding inlining inlined_or_unfit
enough-room m xs h e = grind (arith, common_steps)

pub few-records : (m : ℕ) (xs : List Inlined) (n : ℕ) → inlining m xs ≡ Ok n → (n ≤ 1600) × (n ≡ length xs) × (n ≤ m)
unfolding inlining inlined_or_unfit
few-records m xs n e = grind (arith, common_steps)

-- where the answer is a number of records, they stand at the start of the buffer
pub written-records : (b : List Record) (xs : List Inlined) (n : ℕ) → inlining (length b) xs ≡ Ok n → take n (inlining_records b xs) ≡ map record_of xs
unfolding inlining_records
written-records b xs n e =
    let r = few-records (length b) xs n e in
    let t = take_at (map record_of xs) (drop (length xs) b) n (length-records xs ∙ sym r.1) in
    grind (arith, common_steps)
