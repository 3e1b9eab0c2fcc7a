-- Records written one after another.
use Rattle.std.specs.Prelude.{ℕ, ◌+◌, ◌*◌, ◌≤◌, ◌≡◌, List, length}
use Rattle.rules.specs.Bytes.{written}
use Rattle.rules.specs.Table.{record_length, encode}
use Rattle.rules.specs.declared.Record.{Record}

-- b with the records xs written over it from place c on
unfoldable pub put : List ℕ → ℕ → List Record → List ℕ
put b c xs = written b (record_length * c) (encode xs)

-- from place c on the records xs are written over b, which makes b'; the next place is c'
abbrev pub RecordsAppended : List ℕ → ℕ → List Record → List ℕ → ℕ → Type 0
RecordsAppended b c xs b' c' = (b' ≡ put b c xs) × (c' ≡ c + length xs)

-- n records fit into b from place c on
abbrev pub Room : List ℕ → ℕ → ℕ → Type 0
Room b c n = record_length * (c + n) ≤ length b

-- the records xs fit into b from place c on
abbrev pub RoomForRecords : List ℕ → ℕ → List Record → Type 0
RoomForRecords b c xs = Room b c (length xs)
