use Rattle.std.proofs.Common.{ℕ, suc, ◌≡◌, ◌+◌, ◌-◌, ◌*◌, ◌<◌, List, [], ◌∷◌, ◌++◌, length, take, drop, arith, ap, sym, ◌∙◌}
use Rattle.std.proofs.Math.Nat.{suc-mul}
use Rattle.std.proofs.lemmas.List.{length-drop, drop-drop}
use Rattle.flp_field.specs.Sums.{sum_of_lists, parts_of, sum_of_parts}
use Rattle.flp_field.proofs.ListParts.{parts_of-more}
use Rattle.flp_share.specs.Adding.{AddsList}
use Rattle.flp_share.proofs.shares.unshare.Invariants.{AddedUp}
use Rattle.flp_share.proofs.shares.unshare.Goals as goal

-- one part more
adds_part : (n : ℕ) (all : List ℕ) (shares count : ℕ) (rest part behind out next : List ℕ) → count < shares → part ≡ take n rest → behind ≡ drop n rest
    → length next ≡ n → AddsList part out next → AddedUp n all shares count rest out → AddedUp n all shares (count + 1) behind next
adds_part n all shares count rest part behind out next below front back room adds before =
    let one : suc (shares - (count + 1)) * n ≡ (shares - (count + 1)) * n + n = suc-mul (shares - (count + 1)) n in
    let left : shares - count ≡ suc (shares - (count + 1)) = omega arith in
    let had : length rest ≡ suc (shares - (count + 1)) * n = before.size ∙ ap (λ (c : ℕ). c * n) left in
    let fewer : length behind ≡ length rest - n = ap (λ (l : List ℕ). length l) back ∙ length-drop n rest in
    let place : count * n + n ≡ (count + 1) * n = omega arith in
    let own : part ≡ take n (drop (count * n) all) = front ∙ ap (λ (l : List ℕ). take n l) before.behind in
    record {
      room = room;
      size = omega arith;
      behind = back ∙ ap (λ (l : List ℕ). drop n l) before.behind ∙ drop-drop n (count * n) all ∙ ap (λ (i : ℕ). drop i all) place;
      sum =
          adds (parts_of count n all) (before.sum ∙ ap (λ (m : ℕ). sum_of_lists m (parts_of count n all)) (sym before.room))
          ∙ ap (λ (m : ℕ). sum_of_lists m (parts_of count n all ++ part ∷ [])) before.room
          ∙ ap (λ (l : List ℕ). sum_of_lists n (parts_of count n all ++ l ∷ [])) own
          ∙ ap (λ (lists : List (List ℕ)). sum_of_lists n lists) (sym (parts_of-more count 1 n all));
    }

pub loop-preserved : goal.loop-preserved
loop-preserved c =
    let n : ℕ = length c.args.out.now in
    let room : length c.loop.out ≡ n = c.loop.invariant.room in
    adds_part n c.args.parts.now c.args.shares c.loop.counter c.loop.rest.now c.split_at.result.0.now c.split_at.result.1.now
    c.loop.out c.add_to.new.sum (omega arith)
    (c.split_at.ensures.front ∙ ap (λ (m : ℕ). take m c.loop.rest.now) room)
    (c.split_at.ensures.back ∙ ap (λ (m : ℕ). drop m c.loop.rest.now) room)
    (omega arith) c.add_to.ensures c.loop.invariant

pub returns : goal.returns
returns c =
    let all : c.loop.counter ≡ c.args.shares = omega arith in
    c.loop.invariant.sum ∙ ap (λ (count : ℕ). sum_of_parts count (length c.args.out.now) c.args.parts.now) all
