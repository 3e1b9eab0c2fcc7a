-- What the contracts of the visits say: which state the progress and the fault buffer hold.
use Rattle.std.specs.Prelude.{◌≡◌, List, map, ℕ, ◌+◌, ◌*◌, ◌-◌, ◌^◌, ◌<◌, ◌≤◌, length, take, drop, set, replicate, eqb}
use Rattle.std.specs.List.{count_by}
use Rattle.std.proofs.lemmas.List.Edits.{sets}
use Rattle.rules.specs.Table.{at}
use Rattle.rules.specs.Faults.{single, log}
use Rattle.rules.specs.Visits.{State, resolve, walk, visit}
use Rattle.rules.specs.DeclIdentifiers.{references, field_references, fault_of}
use Rattle.rules.specs.declared.Record.{Record}
use Rattle.rules.specs.declared.Reference.{Reference}
use Rattle.rules.specs.declared.Reference.TheVariants.{Nowhere, Wrong, Follow}
use Rattle.faults.specs.Notes.{no_faults, noted, noted_all}
use Rattle.decl_visits.specs.declared.VisitProgress.{VisitProgress}

-- how many marks are of places not visited yet, and how many are of those of the table
unfoldable pub unvisited_count : List ℕ → ℕ
unvisited_count l = count_by (λ m. eqb m 0) l

abbrev pub unvisited_in : List Record → VisitProgress → ℕ
unvisited_in rs a = unvisited_count (take (length rs) a.marks)

-- nothing visited yet
unfoldable pub started : VisitProgress
started = record { marks = replicate 1600 0; places = replicate 1600 0; listed = 0; tally = no_faults }

-- the declaration at d is listed
abbrev pub listing : ℕ → VisitProgress → VisitProgress
listing d a = record { marks = set a.marks d 2; places = set a.places a.listed d; listed = a.listed + 1; tally = a.tally }

-- a fault more, at the record at p
pub record Noted (rs : List Record) (a : VisitProgress) (buffer : List ℕ) (c p : ℕ) (a' : VisitProgress) (buffer' : List ℕ) : Type 0 where
  pub marks : a'.marks ≡ a.marks
  pub places : a'.places ≡ a.places
  pub listed : a'.listed ≡ a.listed
  pub faults : log a'.tally buffer' ≡ noted (log a.tally buffer) (single c (at rs p))

-- the progress and the fault buffer hold the state s; before the visits they were o and f₀
pub record StateHeld (rs : List Record) (o : VisitProgress) (f₀ : List ℕ) (s : State) (a : VisitProgress) (buffer : List ℕ) : Type 0 where
  pub marks_are : take (length rs) a.marks ≡ s.marks
  pub marks_rest : drop (length rs) a.marks ≡ drop (length rs) o.marks
  pub places_are : a.places ≡ sets o.places 0 s.order
  pub listed_is : a.listed ≡ length s.order
  pub faults_are : log a.tally buffer ≡ noted_all (log no_faults f₀) (map (fault_of rs) s.faults)

-- they hold some state, with room for x more faults and y more places than the unvisited ones bring
pub record VisitReady (rs : List Record) (a : VisitProgress) (buffer : List ℕ) (x y : ℕ) : Type 0 where
  pub state : State
  pub origin : VisitProgress
  pub buffer₀ : List ℕ
  pub held : StateHeld rs origin buffer₀ state a buffer
  pub few : length rs ≤ 1600
  pub size : length state.marks ≡ length rs
  pub room : length state.order + unvisited_count state.marks + y ≤ 1600
  pub spare : length state.faults + unvisited_count state.marks * 2048 + x < 2 ^ 63

-- a declaration to visit stands below n
abbrev pub Within : ℕ → Reference → Type 0
Within n Nowhere = Unit {0}
Within n (Wrong c p) = Unit {0}
Within n (Follow d) = d < n

-- whatever state they held, they now hold what the step g makes of it, where visits may go k declarations deep
abbrev pub Steps : List Record → (ℕ → State → State) → VisitProgress → List ℕ → VisitProgress → List ℕ → Type 0
Steps rs g a buffer a' buffer' =
    (k : ℕ) (o : VisitProgress) (f₀ : List ℕ) (s : State) → unvisited_in rs a < k → StateHeld rs o f₀ s a buffer → StateHeld rs o f₀ (g k s) a' buffer'

-- the reference r is taken up, and the references of the fields from p on
abbrev pub taken_up : List Record → Reference → ℕ → State → State
taken_up rs r k s = resolve (visit k (references rs)) r s

abbrev pub walked : List Record → ℕ → ℕ → State → State
walked rs p k s = walk (visit k (references rs)) (field_references rs p (length rs - p)) s

abbrev pub Visited : List Record → Reference → VisitProgress → List ℕ → VisitProgress → List ℕ → Type 0
Visited rs r = Steps rs (taken_up rs r)

abbrev pub Walked : List Record → ℕ → VisitProgress → List ℕ → VisitProgress → List ℕ → Type 0
Walked rs p = Steps rs (walked rs p)
