-- What a step spells stays as more is recorded, and is one plan.
use Rattle.std.proofs.Common.{◌≡◌, ℕ, zero, suc, ◌+◌, ◌<◌, ◌≤◌, List, ◌++◌, length, get_or, take, drop, Some, None, Option, sym, refl, ap, ◌∙◌, ap₂, arith, length-append, length-drop}
use Rattle.std.proofs.lemmas.List.{get_or_append_left, get_or_default, take-append-le, drop-append-le}
use Rattle.algebra.specs.declared.label.Label.{Label}
use Rattle.algebra.specs.declared.arc.Arc.{Arc as Recorded}
use Rattle.runs.specs.declared.step.Step.{Step}
use Rattle.runs.specs.declared.step.Step.TheVariants.{Node, Pause, Table, Choice, Sequence, Repeat, Fork, Abort}
use Rattle.runs.specs.Plan.{Arc, Plan, node, pause, table, choice, sequence, loop, fork, abort}
use Rattle.runs.specs.Arcs.{plan_arcs}
use Rattle.runs.specs.Steps.{StepIs, OfArcs, OverOne, OverTwo, Spells}

module _ (steps later : List Step) (arcs more : List Recorded) where
  still : (i : ℕ) (s : Step) → StepIs steps i s → StepIs (steps ++ later) i s
  still i s h = (omega (arith, length-append steps later, h.0), get_or_append_left steps later s i h.0 ∙ h.1)

  same_part : (first count : ℕ) → first + count ≤ length arcs → take count (drop first arcs) ≡ take count (drop first (arcs ++ more))
  same_part first count l =
      sym
      (ap (take count) (drop-append-le first arcs more (omega arith))
      ∙ take-append-le count (drop first arcs) more (omega (arith, length-drop first arcs)))

  still_arcs : (i : ℕ) (list : List (Arc Label)) → OfArcs steps arcs i list → OfArcs (steps ++ later) (arcs ++ more) i list
  still_arcs i list h = record {
    first = h.first;
    count = h.count;
    is = still i (Table h.first h.count) h.is;
    within = omega (arith, length-append arcs more, h.within);
    made = h.made ∙ ap plan_arcs (same_part h.first h.count h.within);
  }

  still_one : (i : ℕ) (make : ℕ → Step) (P Q : ℕ → Type 0) → ((j : ℕ) → P j → Q j) → OverOne steps i make P → OverOne (steps ++ later) i make Q
  still_one i make P Q f h = record { of = h.of; is = still i (make h.of) h.is; earlier = h.earlier; spelled = f h.of h.spelled }

  still_two : (i : ℕ) (make : ℕ → ℕ → Step) (P Q P' Q' : ℕ → Type 0) → ((j : ℕ) → P j → P' j) → ((j : ℕ) → Q j → Q' j)
      → OverTwo steps i make P Q → OverTwo (steps ++ later) i make P' Q'
  still_two i make P Q P' Q' f g h = record {
    first = h.first;
    second = h.second;
    is = still i (make h.first h.second) h.is;
    first_earlier = h.first_earlier;
    second_earlier = h.second_earlier;
    first_spelled = f h.first h.first_spelled;
    second_spelled = g h.second h.second_spelled;
  }

  pub stays : (i : ℕ) (plan : Plan Label) → Spells steps arcs i plan → Spells (steps ++ later) (arcs ++ more) i plan
  stays i (node x) h = still i (Node x) h
  stays i (pause x) h = still i (Pause x) h
  stays i (table list) h = still_arcs i list h
  stays i (choice a b) h = still_two i Choice _ _ _ _ (λ j. stays j a) (λ j. stays j b) h
  stays i (sequence a b) h = still_two i Sequence _ _ _ _ (λ j. stays j a) (λ j. stays j b) h
  stays i (loop a) h = still_one i Repeat _ _ (λ j. stays j a) h
  stays i (fork a b) h = still_two i Fork _ _ _ _ (λ j. stays j a) (λ j. stays j b) h
  stays i (abort a b) h = still_two i Abort _ _ _ _ (λ j. stays j a) (λ j. stays j b) h

-- the plan of a pair of parts
abbrev two : (Plan Label → Plan Label → Plan Label) → Option (Plan Label) → Option (Plan Label) → Option (Plan Label)
two f (Some a) (Some b) = Some (f a b)
two f (Some a) None = None
two f None b = None

abbrev one : (Plan Label → Plan Label) → Option (Plan Label) → Option (Plan Label)
one f (Some a) = Some (f a)
one f None = None

module _ (steps : List Step) (arcs : List Recorded) where
  -- the plan of a step, from those of its parts
  abbrev composed : (ℕ → Option (Plan Label)) → Step → Option (Plan Label)
  composed part (Node x) = Some (node x)
  composed part (Pause x) = Some (pause x)
  composed part (Table first count) = Some (table (plan_arcs (take count (drop first arcs))))
  composed part (Choice j k) = two choice (part j) (part k)
  composed part (Sequence j k) = two sequence (part j) (part k)
  composed part (Repeat j) = one loop (part j)
  composed part (Fork j k) = two fork (part j) (part k)
  composed part (Abort j k) = two abort (part j) (part k)

  -- the plan of step i, read through at most n steps
  abbrev read : (n i : ℕ) → Option (Plan Label)
  read zero i = None
  read (suc n) i = composed (read n) (get_or steps i (Repeat 0))

  step_read : (n i : ℕ) (s : Step) → StepIs steps i s → read (suc n) i ≡ composed (read n) s
  step_read n i s h = ap (composed (read n)) (get_or_default steps i (Repeat 0) s h.0 ∙ h.1)

  -- step j of a part reads as the part, through at most n steps
  abbrev Reads : (n : ℕ) → Plan Label → Type 0
  Reads n plan = (j : ℕ) → j < n → Spells steps arcs j plan → read n j ≡ Some plan

  reads_one : (n i : ℕ) (f : Plan Label → Plan Label) (make : ℕ → Step) (a : Plan Label)
      → ((j : ℕ) → composed (read n) (make j) ≡ one f (read n j)) → i < suc n → Reads n a
      → OverOne steps i make (λ j. Spells steps arcs j a) → read (suc n) i ≡ Some (f a)
  reads_one n i f make a form l part h =
      step_read n i (make h.of) h.is ∙ form h.of ∙ ap (one f) (part h.of (omega (arith, h.earlier)) h.spelled)

  reads_two : (n i : ℕ) (f : Plan Label → Plan Label → Plan Label) (make : ℕ → ℕ → Step) (a b : Plan Label)
      → ((j k : ℕ) → composed (read n) (make j k) ≡ two f (read n j) (read n k)) → i < suc n → Reads n a → Reads n b
      → OverTwo steps i make (λ j. Spells steps arcs j a) (λ k. Spells steps arcs k b) → read (suc n) i ≡ Some (f a b)
  reads_two n i f make a b form l first second h =
      step_read n i (make h.first h.second) h.is ∙ form h.first h.second
      ∙ ap₂ (two f) (first h.first (omega (arith, h.first_earlier)) h.first_spelled) (second h.second (omega (arith, h.second_earlier)) h.second_spelled)

  reads : (n : ℕ) (plan : Plan Label) → Reads n plan
  reads zero plan i l h = absurd (omega arith)
  reads (suc n) (node x) i l h = step_read n i (Node x) h
  reads (suc n) (pause x) i l h = step_read n i (Pause x) h
  reads (suc n) (table list) i l h = step_read n i (Table h.first h.count) h.is ∙ ap (λ x. Some (table x)) (sym h.made)
  reads (suc n) (choice a b) i l h = reads_two n i choice Choice a b (λ j k. refl) l (reads n a) (reads n b) h
  reads (suc n) (sequence a b) i l h = reads_two n i sequence Sequence a b (λ j k. refl) l (reads n a) (reads n b) h
  reads (suc n) (loop a) i l h = reads_one n i loop Repeat a (λ j. refl) l (reads n a) h
  reads (suc n) (fork a b) i l h = reads_two n i fork Fork a b (λ j k. refl) l (reads n a) (reads n b) h
  reads (suc n) (abort a b) i l h = reads_two n i abort Abort a b (λ j k. refl) l (reads n a) (reads n b) h

  pub spells_one : (i : ℕ) (plan plan' : Plan Label) → Spells steps arcs i plan → Spells steps arcs i plan' → plan ≡ plan'
  spells_one i plan plan' h h' = (cc (reads (suc i) plan i (omega arith) h, reads (suc i) plan' i (omega arith) h'))
