use Rattle.std.proofs.Common.{rules, ◌≡◌, ℕ, ◌<◌, List, ◌++◌, map, length, take, drop, sym, ap, ◌∙◌, subst, subst₂, arith}
use Rattle.std.proofs.lemmas.List.{take-append-le, length-take-le, drop_at}
use Rattle.shelves.specs.Calls.{Event}
use Rattle.shelves.specs.Effects.{DoesAll}
use Rattle.shelves.specs.Held.{state_of, call_of}
use Rattle.shelves.specs.History.{Made}
use Rattle.shelves.specs.Lists.{after_calls}
use Rattle.shelves.specs.Told.{reply_of}
use Rattle.algebra.proofs.AlgebraLaws.{laws_of}
use Rattle.shelves.proofs.CallLists.{after_more, does_more}
use Rattle.shelves.proofs.Histories.{kept}
use Rattle.shelves.proofs.listing.answer_all.Goals as goal

pub offset_bounds-reply-items-i : goal.offset_bounds-reply-items-i
offset_bounds-reply-items-i g c =
    let n = c.min-n.result in
    let replies = c.args.replies.now in
    let long : length (take n replies) ≡ n = length-take-le n replies (omega arith) in
    let within : c.loop-i.i < length replies = omega arith in
    search rules

pub loop-i-preserved : goal.loop-i-preserved
loop-i-preserved g c =
    let m = g.V.Algebra.model in
    let f = g.V.Algebra.means in
    let i = c.loop-i.i in
    let calls = c.args.calls.now in
    let replies = c.loop-i.reply-items in
    let reply = c.answer.result in
    let s = state_of m f c.args.core.now in
    let after = state_of m f c.answer.new.core in
    let n = c.min-n.result in
    let long : length (take n c.args.replies.now) ≡ n = length-take-le n c.args.replies.now (omega arith) in
    let within : i < length calls = omega arith in
    let room : i < length replies = omega arith in (
      λ h made. subst (λ hh. Made m hh after) (sym (after_more m call_of (reply_of m f) calls replies i _ reply h within room)) (c.answer.ensures.made _ (c.loop-i.invariant.0 h made)),
      does_more m call_of (reply_of m f) calls replies i _ reply s _ after within room c.loop-i.invariant.1 c.answer.ensures.does,
    )

pub returns : goal.returns
returns g c =
    let m = g.V.Algebra.model in
    let f = g.V.Algebra.means in
    let n = c.min-n.result in
    let calls = c.args.calls.now in
    let replies = c.loop-i.reply-items in
    let s = state_of m f c.args.core.now in
    let after = state_of m f c.loop-i.core in
    let long : length (take n c.args.replies.now) ≡ n = length-take-le n c.args.replies.now (omega arith) in
    let all : c.loop-i.i ≡ n = omega arith in
    let whole : take c.loop-i.i replies ≡ take n (replies ++ drop n c.args.replies.now) = ap (λ (j : ℕ). take j replies) all ∙ sym (take-append-le n replies (drop n c.args.replies.now) (omega arith)) in
    let made_after : (h : List (Event m)) → Made m h s → Made m (after_calls m (map call_of (take n calls)) (map (reply_of m f) (take n (replies ++ drop n c.args.replies.now))) h) after =
    λ h made. subst₂ (λ (j : ℕ) rs. Made m (after_calls m (map call_of (take j calls)) (map (reply_of m f) rs) h) after) all whole (c.loop-i.invariant.0 h made) in
    record {
      count = search rules;
      rest = drop_at replies (drop n c.args.replies.now) n (omega arith);
      answers = record {
        does = subst₂ (λ (j : ℕ) rs. DoesAll m (map call_of (take j calls)) (map (reply_of m f) rs) s after) all whole c.loop-i.invariant.1;
        made = made_after;
        kept = λ h made. kept m (laws_of g.world g.met.V.Algebra) g.met.V.Algebra.chosen (made_after h made);
      };
    }
