-- Laws of the lines that are printed, and of how long they are. Assumes nothing.
use Prim.Native.Nat.{ℕ, ◌+◌, ◌*◌, ◌≤◌}
use mathlib.Core.Path.{◌≡◌, refl, sym, ap}
use mathlib.Core.List.{List, [], ◌∷◌, ◌++◌}
use mathlib.Core.Bool.{Bool, true, false}
use native.Mathlib.Omega.{arith}
use lib.Dec.{eqb}
use lib.ListN.{length}
use Rattle.std.specs.Prelude.{if◌then◌else◌}
use Rattle.rules.specs.Printed.{decimal, line, record_line, fault_line, record_lines, fault_lines, detail}
use Rattle.rules.specs.Bytes.{written}
use Rattle.rules.specs.Table.{record_at}
use Rattle.rules.specs.Faults.{fault_at}
use Rattle.rules.specs.Places.{each}
use Rattle.rules.specs.Replies.{numbered}
use Rattle.rules.specs.declared.Reply.{Reply}
use Rattle.rules.specs.declared.Reply.TheVariants.{Uneven, TooLong, Malformed, Faulty, Swollen, Unfit, Loose, Overlisted, NoRoom, Accepted}
use Rattle.rules.specs.declared.Record.{Record}
use Rattle.rules.specs.declared.Fault.{Fault}
use Rattle.table.proofs.Laws.{each_more}
use Rattle.records.proofs.Laws.{length-decode, at-decode}
use Rattle.printed_text.specs.TextAppended.{put_text}
use Rattle.printed_text.proofs.Laws.{puts, put-bytes, length-decimal, length-line}
use Rattle.printed_text.proofs.replies.Laws.{length-reply}
use Rattle.printed.specs.Whole.{records_behind}

-- how long lines are
pub length-record : (r : Record) → length (record_line r) ≤ 210
unfolding record_line
length-record r =
    let h : length (record_line r) ≤ length (decimal r.kind) + 21 * 9 + 1 = length-line (decimal r.kind) _ in
    omega (arith, h, length-decimal r.kind)

pub length-fault : (f : Fault) → length (fault_line f) ≤ 105
unfolding fault_line
length-fault f = go (eqb f.secondary 0)
  where
    go : (t : Bool) → length (line (decimal f.code) (if t then f.start ∷ f.end ∷ [] else f.start ∷ f.end ∷ f.start2 ∷ f.end2 ∷ [])) ≤ 105
    go true = omega (arith, length-line (decimal f.code) (f.start ∷ f.end ∷ []), length-decimal f.code)
    go false = omega (arith, length-line (decimal f.code) (f.start ∷ f.end ∷ f.start2 ∷ f.end2 ∷ []), length-decimal f.code)

-- the lines of one record more, and of one fault more
module _ (t : List ℕ) where
  pub records-none : record_lines t 0 ≡ []
  unfolding record_lines each
  records-none = refl

  pub records-more : (p : ℕ) → record_lines t (p + 1) ≡ record_lines t p ++ record_line (record_at t (40 * p))
  unfolding record_lines
  records-more p = each_more (λ q. record_line (record_at t (40 * q))) p

  pub faults-none : fault_lines t 0 ≡ []
  unfolding fault_lines each
  faults-none = refl

  pub faults-more : (p : ℕ) → fault_lines t (p + 1) ≡ fault_lines t p ++ fault_line (fault_at t (20 * p))
  unfolding fault_lines
  faults-more p = each_more (λ q. fault_line (fault_at t (20 * q))) p

pub ruleset record_laws = (puts, records-none, records-more, length-record, length-decode, at-decode)

pub put-start : (b s : List ℕ) → put_text b 0 s ≡ written b 0 s
put-start b s = sym (put-bytes b 0 s)

pub ruleset answer_laws = (puts, put-start, length-reply)

pub ruleset fault_laws = (puts, faults-none, faults-more, length-fault)

-- nothing stands behind the replies other than Faulty and Accepted
pub no-detail : (r : Reply) → ((x y : ℕ) → r ≡ Faulty x y → ⊥) → ((x : ℕ) → r ≡ Accepted x → ⊥) → (t f : List ℕ) → detail (numbered r) t f ≡ []
unfolding numbered detail
no-detail Uneven h a t f = refl
no-detail TooLong h a t f = refl
no-detail (Malformed place) h a t f = refl
no-detail (Faulty pass total) h a t f = absurd (h pass total refl)
no-detail Swollen h a t f = refl
no-detail (Unfit key) h a t f = refl
no-detail (Loose key) h a t f = refl
no-detail Overlisted h a t f = refl
no-detail (NoRoom needed) h a t f = refl
no-detail (Accepted records) h a t f = absurd (a records refl)

pub records-behind : (n : ℕ) {r : Reply} → r ≡ Accepted n → records_behind (numbered r) ≡ n
unfolding records_behind numbered
records-behind n e = ap (λ (x : Reply). records_behind (numbered x)) e
