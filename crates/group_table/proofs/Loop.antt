-- The loop that writes the inlined table. Assumes nothing.
use Prim.Native.Nat.{ℕ, ◌+◌}
use mathlib.Core.Path.{◌≡◌, ap}
use mathlib.Core.List.{List, [], ◌∷◌, append-nil}
use mathlib.Core.Bool.{true, false}
use lib.ListN.{length}
use Rattle.rules.specs.Table.{at}
use Rattle.rules.specs.Places.{each}
use Rattle.rules.specs.InlineGroups.{is_kept, kept, expand, inlined_at}
use Rattle.rules.specs.declared.Record.{Record}
use Rattle.rules.specs.declared.Inlined.{Inlined}
use Rattle.table.proofs.Laws.{each_more}
use Rattle.group_table.specs.declared.ExpandProgress.{ExpandProgress}
use Rattle.group_table.specs.Outputs.{Output, output, added, added_all}
use Rattle.group_table.proofs.Expands.{added-append}

-- one record more is counted
pub count-one : (o : Output) (x : Inlined) {s : ExpandProgress} {out : List Record} → output s out ≡ added o x → s.count ≡ o.progress.count + 1
unfolding added
count-one o x e = ap (λ (u : Output). u.progress.count) e

-- what the places below d and the one at d become
pub inlined-other : (rs : List Record) (d : ℕ) → is_kept (at rs d).kind ≡ false → each (inlined_at rs) (d + 1) ≡ each (inlined_at rs) d
unfolding inlined_at
inlined-other rs d i = rw (each_more (inlined_at rs) d, inlined_at, i, append-nil (each (inlined_at rs) d))

pub inlined-next : (rs : List Record) (d : ℕ) (o : Output) → is_kept (at rs d).kind ≡ true → added_all o (each (inlined_at rs) (d + 1)) ≡ added_all (added (added_all o (each (inlined_at rs) d)) (kept (at rs d))) (expand rs (length rs) [] d)
unfolding inlined_at added_all
inlined-next rs d o i = rw (each_more (inlined_at rs) d, inlined_at, i, added-append o (each (inlined_at rs) d) (kept (at rs d) ∷ expand rs (length rs) [] d))
