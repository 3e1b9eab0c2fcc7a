-- The fault buffer fault by fault. `logged` of the rules is the closed form, which `noted-logged` (proofs/Laws.antt) shows equal.
use Rattle.std.specs.Prelude.{◌+◌, ◌*◌, ltb, if◌then◌else◌}
use mathlib.Core.List.{List, foldl}
use Rattle.rules.specs.Bytes.{written}
use Rattle.rules.specs.Faults.{fault_length, fault_room, fault_bytes, Log, log}
use Rattle.rules.specs.declared.Fault.{Fault}
use Rattle.rules.specs.declared.Tally.{Tally}

-- no fault yet
abbrev pub no_faults : Tally
no_faults = record { kept = 0; total = 0 }

-- one fault more is kept where a whole one still fits, and counted
unfoldable pub noted : Log → Fault → Log
noted l f =
    if ltb l.tally.kept (fault_room l.buffer) then
    log
    (record { kept = l.tally.kept + 1; total = l.tally.total + 1 })
    (written l.buffer (fault_length * l.tally.kept) (fault_bytes f))
    else log (record { kept = l.tally.kept; total = l.tally.total + 1 }) l.buffer

unfoldable pub noted_all : Log → List Fault → Log
noted_all l fs = foldl noted l fs
