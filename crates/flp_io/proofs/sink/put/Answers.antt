use Rattle.std.proofs.Common.{◌≡◌, ℕ, ◌+◌, ◌-◌, ◌≤◌, List, ◌++◌, rules, arith, length, take, drop, refl, sym, ap, ◌∙◌, subst, append_assoc, take-append-drop}
use Rattle.std.proofs.lemmas.Grind.{common_steps}
use Rattle.std.proofs.lemmas.List.{take_rest}
use Rattle.std.specs.Io.KnownBytes.{Appends}
use Rattle.std.proofs.KnownBytes.{Appends-trans, Appends-kept}
use Rattle.flp_io.specs.Writes.{HasRoom, Spends}
use Rattle.flp_io.proofs.WriteLemmas.{TakesPrefix-front, HasRoom-rest, Spends-trans}
use Rattle.flp_io.proofs.sink.put.Goals as goal

-- the next n bytes move from the rest to what is done
moves_front : (all done rest : List ℕ) (n : ℕ) → all ≡ done ++ rest → all ≡ (done ++ take n rest) ++ take (length rest - n) (drop n rest)
moves_front all done rest n e =
    e ∙ ap (λ l. done ++ l) (sym (take-append-drop n rest)) ∙ sym (append_assoc done (take n rest) (drop n rest)) ∙ ap (λ l. (done ++ take n rest) ++ l) (sym (take_rest rest n))

length-left : (rest : List ℕ) (n : ℕ) → n ≤ length rest → length rest ≡ n + length (take (length rest - n) (drop n rest))
length-left rest n h = grind (arith, common_steps)

length-done : (done rest : List ℕ) (n : ℕ) → n ≤ length rest → length done + n ≡ length (done ++ take n rest)
length-done done rest n h = grind (arith, common_steps)

done-all : (all done rest : List ℕ) → all ≡ done ++ rest → length rest ≡ 0 → done ≡ all
done-all all done rest e h = grind (arith, common_steps)

pub loop-rest-preserved : goal.loop-rest-preserved
loop-rest-preserved g c =
    let (done, split, taken, spared, later, ready) = c.loop-rest.invariant in
    let rest = c.loop-rest.rest.now in
    let n = c.in_ok-count.count in
    let within : n ≤ length rest = c.in_ok-count.ensures.bound in (
      done ++ take n rest,
      moves_front _ done rest n split,
      Appends-trans _ _ _ _ _ taken c.in_ok-count.ensures.bytes,
      λ h. let (room, spent) = spared h in
          let now = c.in_ok-count.ensures.room room in (
            HasRoom-rest _ _ n _ (subst (HasRoom _) (length-left rest n within) room) now,
            subst (Spends _ _) (length-done done rest n within) (Spends-trans _ _ _ _ n spent now),
          ),
      search rules,
      search rules,
    )

pub returns-in_err-count : goal.returns-in_err-count
returns-in_err-count g c =
    let (done, split, taken, spared, later, ready) = c.loop-rest.invariant in
    record {
      sink = record {
        whole = search rules;
        front = TakesPrefix-front _ _ done c.loop-rest.rest.now _ (Appends-kept _ _ _ _ taken c.in_err-count.ensures.bytes) split;
        room = search rules;
        uses = search rules;
      };
    }

pub returns : goal.returns
returns g c =
    let (done, split, taken, spared, later, ready) = c.loop-rest.invariant in
    let none : length c.loop-rest.rest.now ≡ 0 = search rules in
    let all : done ≡ c.args.piece.now = done-all _ done _ split none in
    record {
      sink = record {
        whole = subst (Appends _ _) all taken;
        front = TakesPrefix-front _ _ done c.loop-rest.rest.now _ taken split;
        room = λ h. (refl, subst (λ (l : List ℕ). Spends (g.K.Sink.spare c.args.sink.now) (g.K.Sink.spare c.loop-rest.sink) (length l)) all (spared h).1);
        uses = search rules;
      };
    }
