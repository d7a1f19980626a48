-- Entries that a rack takes one after the other: one more, and the book that they spell.
use Rattle.std.proofs.Common.{◌≡◌, ℕ, suc, ◌+◌, ◌<◌, List, [], ◌∷◌, ◌++◌, map, length, get_or, take, drop, sym, refl, ap, ◌∙◌, subst, arith}
use lib.Seq.{split_at}
use Rattle.std.proofs.lemmas.List.{map_more, map-append, length-map, length-take-le}
use Rattle.algebra.specs.Model.{Model}
use Rattle.program.specs.Entries.{Entry}
use Rattle.shelves.specs.Calls.{accepted, refused, Event}
use Rattle.shelves.specs.Effects.{Does}
use Rattle.shelves.specs.History.{Made, more}
use Rattle.shelves.specs.Questions.{Yes, FirstNo}
use Rattle.shelves.specs.Refusals.{order}
use Rattle.shelves.specs.State.{State}
use Rattle.shelves.specs.declared.refusal.Refusal.{Refusal}
use Rattle.shelves.specs.Book.{book}
use Rattle.analyser.specs.Files.{Takes, StopsAt}
use Rattle.analyser.specs.Records.{as_call, spelled_on}

module _ (m : Model) where
  takes_push : (es : List Entry) (e : Entry) (n : ℕ) (s t s' : State m) → Takes m es s t → Does m (as_call e) (accepted n) t s' → Takes m (es ++ e ∷ []) s s'
  takes_push [] e n s t s' took does = (n, s', subst (λ u. Does m (as_call e) (accepted n) u s') took does, refl)
  takes_push (x ∷ es) e n s t s' took does = (took.0, took.1, took.2, takes_push es e n took.1 t s' took.3 does)

  -- record r comes after i records that are taken
  module _ {R : Type 0} (f : R → Entry) (records : List R) (i : ℕ) (r : R) (here : r ≡ get_or records i r) (less : i < length records) (s t : State m) (took : Takes m (map f (take i records)) s t) where
    pub takes_more : (n : ℕ) (s' : State m) → Does m (as_call (f r)) (accepted n) t s' → Takes m (map f (take (i + 1) records)) s s'
    takes_more n s' does =
        subst (λ es. Takes m es s s') (sym (map_more f records i r less ∙ ap (λ x. map f (take i records) ++ f x ∷ []) (sym here))) (takes_push (map f (take i records)) (f r) n s t s' took does)

    pub stops_at : (s' : State m) (q : Refusal) → Does m (as_call (f r)) (refused q) t s' → StopsAt m (map f records) s s' i q
    stops_at s' q does = record {
      before = map f (take i records);
      refused = f r;
      later = map f (drop (suc i) records);
      are = ap (map f) (split_at records i r less ∙ ap (λ x. take i records ++ x ∷ drop (suc i) records) (sym here)) ∙ map-append f (take i records) (r ∷ drop (suc i) records);
      counted = sym (length-map (take i records) f ∙ length-take-le i records (omega arith));
      takes = subst (Takes m (map f (take i records)) s) (sym does.1) took;
      first_no = subst (λ u. FirstNo (Yes m u (as_call (f r))) order q) (sym does.1) does.0;
    }

  -- the history of entries that are taken after h
  pub record Taken (h : List (Event m)) (es : List Entry) (s : State m) : Type 0 where
    pub history : List (Event m)
    pub made : Made m history s
    pub pages : (k : ℕ) → book history k ≡ spelled_on (book h) es k

  pub taken : (es : List Entry) (s s' : State m) (h : List (Event m)) → Made m h s → Takes m es s s' → Taken h es s'
  taken [] s s' h made took = record { history = h; made = subst (Made m h) (sym took) made; pages = λ k. refl }
  taken (e ∷ es) s s' h made took =
      let event : Event m = record { call = as_call e; reply = accepted took.0 } in
      let rest = taken es took.1 s' (event ∷ h) (more event made took.2) took.3 in
      record { history = rest.history; made = rest.made; pages = rest.pages }
