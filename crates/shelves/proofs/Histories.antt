-- The promise over whole histories, by induction over the events.
use Rattle.std.proofs.Common.{ℕ, List, [], ◌∷◌, length, get_or, Some, None, Option, ap, ◌∙◌, subst, arith}
use Rattle.std.proofs.lemmas.List.{get_or-replicate}
use Rattle.algebra.specs.declared.label.Label.{Label}
use Rattle.algebra.specs.Model.{Model, Laws, Chosen}
use Rattle.runs.specs.Plan.{Plan}
use Rattle.runs.proofs.Rules.Lasting.{there as present_is}
use Rattle.shelves.specs.Book.{Pages, book}
use Rattle.shelves.specs.Calls.{Call, node, pause, table, pair, loop, clear, report, Reply, accepted, reported, refused, Event}
use Rattle.shelves.specs.Effects.{Does}
use Rattle.shelves.specs.History.{Fresh, Made, new, more, Replies, Answered}
use Rattle.shelves.specs.Lists.{Promise, Opening}
use Rattle.shelves.specs.Promise.{AsBooked, Told, AllTold, Kept, Answers}
use Rattle.shelves.specs.State.{State, empty_shelf, shelf_at}
use Rattle.shelves.proofs.EachCall.{find, call_keeps}
use Rattle.shelves.proofs.Invariant.{PagedAt, Inv}
use Rattle.shelves.proofs.OneMeaning.{sound_meaning}
use Rattle.shelves.proofs.Reported.{report_figured}

module _ (m : Model) where
  fresh_inv : (s : State m) → Fresh m s → Inv m (λ k. None) s
  fresh_inv s fresh = record {
    many = ap length fresh.shelves;
    each = λ k low. (ap (λ xs. get_or xs k empty_shelf) fresh.shelves ∙ get_or-replicate 16 k empty_shelf empty_shelf (omega arith), λ j of. fresh.cells j);
  }

  -- what a call does is as the questions say
  replies : (c : Call) (reply : Reply m) (s s' : State m) → Does m c reply s s' → Replies m c reply s
  replies c (accepted n) s s' does = does.0
  replies c (reported r) s s' does = does.0
  replies c (refused r) s s' does = does.0

  answered : {h : List (Event m)} {s : State m} → Made m h s → Answered m h
  answered (new fresh) = tt
  answered (more {s} {s'} e made does) = ((s, made, replies e.call e.reply s s' does), answered made)

  module _ (laws : Laws m) where
    invariant : {h : List (Event m)} {s : State m} → Made m h s → Inv m (book h) s
    invariant (new {s} fresh) = fresh_inv s fresh
    invariant (more {h} {s} {s'} e made does) = call_keeps m laws (book h) s (invariant made) e.call e.reply s' does

    booked : (s : State m) (k : ℕ) (page : Option (Plan Label)) → PagedAt m s k page → AsBooked m s k page
    booked s k None p = p
    booked s k (Some plan) p = record { step = p.step; holds = p.holds; spells = p.spells; gives = p.gives; least = p.shelved.least }

    module _ (chosen : Chosen m) where
      tells : (c : Call) (reply : Reply m) (pages : Pages) (s s' : State m) → Inv m pages s → Does m c reply s s' → Told m c reply pages
      tells (report k) (reported r) pages s s' inv does =
          let i = present_is (shelf_at s k).step does.0.1.1.1.0.0 in
          let f = find m laws pages s inv k i.0 does.0.0.0 i.1 in
          (f.plan, f.page, report_figured m laws s k f.plan f.sound chosen r does.1)
      tells (report k) (accepted n) pages s s' inv does = tt
      tells (report k) (refused q) pages s s' inv does = tt
      tells (node k l) reply pages s s' inv does = tt
      tells (pause k l) reply pages s s' inv does = tt
      tells (table k arcs) reply pages s s' inv does = tt
      tells (pair kind a b) reply pages s s' inv does = tt
      tells (loop k) reply pages s s' inv does = tt
      tells (clear k) reply pages s s' inv does = tt

      told : {h : List (Event m)} {s : State m} → Made m h s → AllTold m h
      told (new fresh) = tt
      told (more {h} {s} {s'} e made does) = (tells e.call e.reply (book h) s s' (invariant made) does, told made)

      -- every history that a rack makes keeps the promise
      pub kept : {h : List (Event m)} {s : State m} → Made m h s → Kept m h s
      kept {h} {s} made = record {
        answered = answered made;
        booked = λ k low. booked s k (book h k) ((invariant made).each k low);
        told = told made;
        one_meaning = λ j k a b low low' first second.
            sound_meaning m laws s j k a b (subst (PagedAt m s j) first ((invariant made).each j low)) (subst (PagedAt m s k) second ((invariant made).each k low'));
      }

      pub promise : Promise m
      promise h s s' e made does = let next : Made m (e ∷ h) s' = more e made does in (next, kept next)

      pub answers : {c : Call} {r : Reply m} {s s' : State m} → Does m c r s s' → Answers m c r s s'
      answers {c} {r} {s} {s'} does =
          let next : (h : List (Event m)) → Made m h s → Made m (record { call = c; reply = r } ∷ h) s' = λ h made. more (record { call = c; reply = r }) made does in
          record { does = does; made = next; kept = λ h made. kept (next h made) }

      pub opening : Opening m
      opening s fresh = let made : Made m [] s = new fresh in (made, kept made)
