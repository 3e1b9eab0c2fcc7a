-- Laws for the callers of `append_answer`: every answer meets its `requires`, and what it writes stands at the start. Assumes nothing.
use Prim.Native.Nat.{ℕ, ◌+◌, ◌≤◌}
use mathlib.Core.Path.{◌≡◌, ap, subst, sym, ◌∙◌}
use mathlib.Core.List.{List, map}
use native.Mathlib.Omega.{arith}
use lib.ListN.{length, take, drop, length-append, length-drop}
use lib.Seq.{take-append_seam}
use Rattle.std.specs.Prelude.{None, Option, Some, Result, Ok, Err}
use Rattle.rules.specs.Bytes.{written}
use Rattle.rules.specs.Table.{decode, encode}
use Rattle.rules.specs.Layouts.{layout}
use Rattle.rules.specs.Places.{first}
use Rattle.rules.specs.DeclIdentifiers.{ordered}
use Rattle.rules.specs.InlineGroups.{record_of, inlined, first_unfit}
use Rattle.rules.specs.DesugarFlags.{desugared, first_loose}
use Rattle.rules.specs.Replies.{numbered, finds_faults, fitted, by_loose, by_unfit, by_size, by_pass, by_passes, by_layout, answer}
use Rattle.rules.specs.declared.Record.{Record}
use Rattle.rules.specs.declared.Inlined.{Inlined}
use Rattle.rules.specs.declared.LayoutError.{LayoutError}
use Rattle.rules.specs.declared.LayoutError.TheVariants as layouts
use Rattle.printed.specs.Whole.{records_behind, Whole}

-- what is written from the start on fits, and is what stands there
written-long : (b s : List ℕ) → (length s ≤ length (written b 0 s)) × (length b ≤ length (written b 0 s))
written-long b s =
    let e = length-append s (drop (0 + length s) b) in
    let d = length-drop (0 + length s) b in (omega (arith, e, d), omega (arith, e, d))

pub written-first : (b s : List ℕ) {c : List ℕ} → c ≡ written b 0 s → (length s ≤ length c) × (take (length s) c ≡ s)
written-first b s e =
    (subst (λ (l : List ℕ). length s ≤ length l) (sym e) (written-long b s).0, ap (take (length s)) e ∙ take-append_seam s _)

-- an accepted table fits into the table buffer, which keeps its length
fitted-whole : (dr : List Record) (t f : List ℕ) → Whole (fitted dr t f)
unfolding fitted numbered records_behind
fitted-whole dr t f = grind (arith, written-long t (encode dr))

-- no records stand behind the other replies
loose-whole : (rs : List Record) (t f : List ℕ) (x : Option ℕ) → Whole (by_loose rs t f x)
unfolding by_loose numbered records_behind
loose-whole rs t f (Some q) = omega arith
loose-whole rs t f None = fitted-whole (desugared rs) t f

unfit-whole : (xs : List Inlined) (t f : List ℕ) (x : Option ℕ) → Whole (by_unfit xs t f x)
unfolding by_unfit numbered records_behind
unfit-whole xs t f (Some i) = omega arith
unfit-whole xs t f None = loose-whole (map record_of xs) t f (first_loose (map record_of xs))

pass-whole : (rs : List Record) (t f : List ℕ) (x : Option ℕ) → Whole (by_pass rs t f x)
unfolding by_pass by_size numbered records_behind
pass-whole rs t f (Some k) = omega arith
pass-whole rs t f None =
    let xs : List Inlined = inlined (ordered rs) in
    grind (arith, unfit-whole xs t f (first_unfit xs))

layout-whole : (i t f : List ℕ) (x : Result (Unit {0}) LayoutError) → Whole (by_layout i t f x)
unfolding by_layout by_passes numbered records_behind
layout-whole i t f (Err layouts.Uneven) = omega arith
layout-whole i t f (Err layouts.TooLong) = omega arith
layout-whole i t f (Err (layouts.Malformed p)) = omega arith
layout-whole i t f (Ok _) = pass-whole (decode i) t f (first (finds_faults (decode i)) 1 9)

pub answer-whole : (i t f : List ℕ) → Whole (answer i t f)
unfolding answer
answer-whole i t f = layout-whole i t f (layout i)
