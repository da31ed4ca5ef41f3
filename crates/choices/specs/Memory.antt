-- What a walk remembers of each place from step to step, in one list: the strip that its pad last had, and the smallest and the largest of its locally best
-- ports. These depend on the strip alone, not on how the layout came to it.
use Rattle.std.specs.Prelude.{◌≡◌, List, ℕ, ◌+◌, ◌-◌, ◌≤◌, ◌<◌, length, get_or, take, replicate}
use Rattle.std.proofs.Common.{arith}
use Rattle.std.proofs.lemmas.List.{get_or-replicate}
use Rattle.strips.specs.Prefix.{floor, ceil}
use Rattle.totals.specs.Cell.{Leads}
use Rattle.places.specs.Places.{port_in}
use Rattle.choices.specs.Source.{Source, grid_on}
use Rattle.choices.specs.Choices.{Chosen}

-- The strip of place k: its first port, and the port after its last.
abbrev pub start_at : List ℕ → ℕ → ℕ
start_at known k = get_or known k 0

abbrev pub stop_at : List ℕ → ℕ → ℕ
stop_at known k = get_or known (64 + k) 0

-- 1 + the smallest locally best port there, and 1 + the largest; 0: not known.
abbrev pub least_at : List ℕ → ℕ → ℕ
least_at known k = get_or known (128 + k) 0

abbrev pub most_at : List ℕ → ℕ → ℕ
most_at known k = get_or known (192 + k) 0

-- Port q is a locally best one of the strip that is remembered for place k.
abbrev pub LeadsAt : List ℕ → Source → List ℕ → List ℕ → List ℕ → ℕ → ℕ → Type 0
LeadsAt order T lo hi known k = Leads (grid_on order T lo hi) order k (start_at known k) (stop_at known k)

-- What is remembered is true.
pub record Known (order : List ℕ) (T : Source) (lo hi known : List ℕ) : Type 0 where
  pub long : length known ≡ 256
  pub least : (k : ℕ) → k < 64 → 0 < least_at known k → Chosen (LeadsAt order T lo hi known k) 0 (least_at known k - 1)
  pub most : (k : ℕ) → k < 64 → 0 < most_at known k → (q : ℕ) → LeadsAt order T lo hi known k q → q < most_at known k

-- The strip of the pad at place m, of p ports, when the pads before it have the ports of w.
abbrev pub first_port : List ℕ → List ℕ → List ℕ → ℕ → ℕ
first_port order lo w m = floor (port_in w) (get_or lo (get_or order m 0) 0) (take m order) 0

abbrev pub end_port : ℕ → List ℕ → List ℕ → List ℕ → ℕ → ℕ
end_port p order hi w m = ceil (port_in w) (get_or hi (get_or order m 0) 0) (take m order) p

-- It is the one remembered for place k ..
pub record StripOf (p : ℕ) (order lo hi w known : List ℕ) (k : ℕ) : Type 0 where
  pub start : start_at known k ≡ first_port order lo w k
  pub stop : stop_at known k ≡ end_port p order hi w k

-- .. at least where a largest port is.
abbrev pub Current : ℕ → List ℕ → List ℕ → List ℕ → List ℕ → List ℕ → ℕ → Type 0
Current p order lo hi w known k = 0 < most_at known k → StripOf p order lo hi w known k

-- What is remembered is true, and current in w for the first m places.
pub record Memory (order : List ℕ) (T : Source) (lo hi w : List ℕ) (m : ℕ) (known : List ℕ) : Type 0 where
  pub facts : Known order T lo hi known
  pub current : (k : ℕ) → k < m → Current T.ports order lo hi w known k

-- Zeros remember nothing.
pub memory_none : (order : List ℕ) (T : Source) (lo hi w : List ℕ) (m : ℕ) → m ≤ 64 → Memory order T lo hi w m (replicate {A = ℕ} 256 0)
memory_none order T lo hi w m few =
    record {
      facts = record {
        long = omega arith;
        least = λ k l h. absurd (none (128 + k) (omega arith) h);
        most = λ k l h q c. absurd (none (192 + k) (omega arith) h);
      };
      current = λ k l h. absurd (none (192 + k) (omega arith) h);
    }
  where
    none : (i : ℕ) → i < 256 → 0 < get_or (replicate {A = ℕ} 256 0) i 0 → ⊥
    none i l h = omega (arith, get_or-replicate {A = ℕ} 256 i 0 0 l)

-- Place k is remembered as before.
pub record Alike (before after : List ℕ) (k : ℕ) : Type 0 where
  pub start : start_at after k ≡ start_at before k
  pub stop : stop_at after k ≡ stop_at before k
  pub least : least_at after k ≡ least_at before k
  pub most : most_at after k ≡ most_at before k

-- The strip a .. b - 1 is remembered for place m, and what was remembered of another is forgotten.
pub record Noted (m a b : ℕ) (before after : List ℕ) : Type 0 where
  pub long : length after ≡ length before
  pub start : start_at after m ≡ a
  pub stop : stop_at after m ≡ b
  pub least : 0 < least_at after m → after ≡ before
  pub most : 0 < most_at after m → after ≡ before
  pub others : (k : ℕ) → k < 64 → (k ≡ m → ⊥) → Alike before after k

-- What a search at place m leaves: other places are current if they were.
pub record Learnt (order : List ℕ) (T : Source) (lo hi w : List ℕ) (m : ℕ) (before after : List ℕ) : Type 0 where
  pub facts : Known order T lo hi after
  pub here : Current T.ports order lo hi w after m
  pub others : (k : ℕ) → k < 64 → Current T.ports order lo hi w before k → Current T.ports order lo hi w after k
