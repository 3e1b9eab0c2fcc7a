-- `enum_declarations::note_tags` meets its contract: the faults of the tags before the one that comes next are noted. Assumes nothing.
use Prim.Native.Nat.{◌+◌}
use mathlib.Core.Path.{◌≡◌}
use Rattle.rules.specs.Places.{each}
use Rattle.rules.specs.Faults.{log}
use Rattle.rules.specs.EnumDeclarations.{tag_faults}
use Rattle.faults.specs.Notes.{noted_all}
use Rattle.enum_declarations.proofs.note_tags.Given as goal

abbrev pub invariant-loop : goal.invariant-loop
invariant-loop l = record {
  tags : l.tag.tags.now ≡ l.fn.tags;
  place : l.tag.place ≡ l.fn.tags.decl + 1 + l.counter;
  noted : log l.kept l.buffer ≡ noted_all (log l.initial.kept l.initial.buffer) (each (λ j. tag_faults l.fn.tags.marked.table.now l.fn.tags.decl l.fn.tags.count (l.fn.tags.decl + 1 + j)) l.counter);
}
