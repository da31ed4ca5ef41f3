-- The verdict that the code works out: what each test finds, one test after the other.
use Rattle.std.specs.Prelude.{List, [], ◌∷◌, ◌++◌, ◌≡◌, refl, ℕ, ◌≤◌, ◌<◌, length, Option, Some, None, Result, Ok, Err}
use Rattle.paper.specs.declared.Form.{Form}
use Rattle.paper.specs.declared.Form.TheVariants.{Records, Slots}
use Rattle.paper.specs.declared.Refusal.{Refusal}
use Rattle.paper.specs.Job.{count}
use Rattle.paper.specs.Layouts.{held}
use Rattle.paper.specs.Refusals.{refusal}
use Rattle.paper.specs.laws.Tests.{Test, at_each, at_pairs, with_earlier, same_name, same_x}
use Rattle.job.specs.declared.Job.{Job}
use Rattle.job.specs.Board.{pads_on, ports_on}
use Rattle.find.specs.declared.Fault.{Fault}
use Rattle.find.specs.Search.{first_where, first_pair_where}

-- what checks come to: nothing, or a refusal
abbrev pub Verdict : Type 0
Verdict = Result (Unit {0}) Refusal

-- the record that a test finds, and the two
abbrev pub at_record : ℕ → Option ℕ → Verdict
at_record r (Some i) = Err (refusal r i 0)
at_record r None = Ok tt

abbrev pub at_both : ℕ → Option Fault → Verdict
at_both r (Some f) = Err (refusal r f.at f.earlier)
at_both r None = Ok tt

-- what one test comes to
abbrev pub outcome : Test → Verdict
outcome (at_each r n p) = at_record r (first_where p n)
outcome (at_pairs r n q) = at_both r (first_pair_where q n)

-- a refusal stands
abbrev pub and_then : Verdict → Verdict → Verdict
and_then (Ok u) v = v
and_then (Err r) v = Err r

-- the first test that finds a record gives the refusal
abbrev pub verdict : List Test → Verdict
verdict [] = Ok tt
verdict (t ∷ ts) = and_then (outcome t) (verdict ts)

-- one list of tests after another
and_assoc : (u v w : Verdict) → and_then u (and_then v w) ≡ and_then (and_then u v) w
and_assoc (Ok x) v w = refl
and_assoc (Err r) v w = refl

pub verdict_append : (ts us : List Test) → verdict (ts ++ us) ≡ and_then (verdict ts) (verdict us)
verdict_append [] us = refl
verdict_append (t ∷ ts) us = rw (verdict_append ts us) (and_assoc (outcome t) (verdict ts) (verdict us))

-- one test before others: it refuses; it comes to nothing
pub refuses : (t : Test) (ts : List Test) (r : Refusal) → outcome t ≡ Err r → verdict (t ∷ ts) ≡ Err r
refuses t ts r e = rw e

pub passes : (t : Test) (ts : List Test) → outcome t ≡ Ok tt → verdict (t ∷ ts) ≡ verdict ts
passes t ts e = rw e

-- the first ones refuse: so do both; they come to nothing: it is as the others say
pub stops : (ts us : List Test) (r : Refusal) → verdict ts ≡ Err r → verdict (ts ++ us) ≡ Err r
stops ts us r e = rw (verdict_append ts us, e)

pub goes_on : (ts us : List Test) → verdict ts ≡ Ok tt → verdict (ts ++ us) ≡ verdict us
goes_on ts us e = rw (verdict_append ts us, e)

pub and_nothing : (v : Verdict) → and_then v (Ok tt) ≡ v
and_nothing (Ok u) = refl
and_nothing (Err r) = refl

-- 6 and 7
abbrev pub shared_tests : List ℕ → List Test
shared_tests pads =
    at_each 6 (count pads) (with_earlier (same_name pads)) ∷
    at_each 7 (count pads) (with_earlier (same_x pads)) ∷ []

-- what is said of a job's form, its pads and its ports
abbrev pub on_job : {A : Type 0} → (Form → List ℕ → List ℕ → A) → Job → A
on_job f job = f job.form job.pads.now job.ports.now

-- Records are their own port list.
abbrev pub own : Form → List ℕ → List ℕ → Type 0
own Records pads ports = ports ≡ pads
own Slots pads ports = Unit {0}

abbrev pub Formed : Job → Type 0
Formed job = own job.form job.pads.now job.ports.now

-- So few bytes that 16 bits number their records and ports.
abbrev pub Short : Job → Type 0
Short job = (length job.pads.now ≤ 1024) × (length job.ports.now ≤ 1024)

-- so at most 64 pads, and 128 ports
pub record Few (job : Job) : Type 0 where
  pub short : Short job
  pub few : pads_on job ≤ 64
  pub slots_few : ports_on job ≤ 128

-- what the search for touching leaders takes for granted of the layout: its length, and that its entries are port numbers
abbrev pub Led : List ℕ → ℕ → ℕ → Type 0
Led list n p = (n ≤ length list) × ((k : ℕ) → k < n → held list k < p)
