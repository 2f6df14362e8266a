use Rattle.std.proofs.Common.{◌≡◌, ℕ, List, ◌+◌, ◌≤◌, ◌++◌, arith, append-nil, length, take, true, false, refl, sym, ap, ◌∙◌, subst, length-append}
use Rattle.std.specs.Io.KnownBytes.{Appends}
use Rattle.std.proofs.KnownBytes.{Appends-trans}
use Rattle.std.proofs.lemmas.Bool.{eqb-true}
use Rattle.flp_io.specs.Writes.{HasRoom, Spends, TakesPrefix}
use Rattle.flp_io.proofs.UsesLemmas.{Uses-after, Uses-as}
use Rattle.flp_io.proofs.WriteLemmas.{TakesPrefix-front, TakesPrefix-after, TakesPrefix-more, HasRoom-less, HasRoom-rest, Spends-trans}
use Rattle.flp_report.specs.Layout.{word_bytes}
use Rattle.flp_report.proofs.WriteLemmas.{left_words, no_words, word_bytes-split, word_bytes-moves}
use Rattle.flp_report.proofs.write.put_words.Goals as goal

pub returns-in-Err : goal.returns-in-Err
returns-in-Err g c =
    let (done, split, taken, spared, uses) = c.loop-rest.invariant in
    let rest = c.loop-rest.rest.now in
    let n = c.min-count.result in
    let piece = word_bytes (take n rest) in
    let after = word_bytes (left_words rest n) in
    let sizes = ap length (word_bytes-split rest n) ∙ length-append piece after in
    let less : length piece ≤ length (word_bytes rest) = omega (arith, sizes) in
    record {
      whole = tt;
      front = subst (λ l. TakesPrefix (g.K.Sink.taken c.args.sink.now) (g.K.Sink.taken c.put_block.new.sink) l) (sym (word_bytes-moves _ done rest n split)) (TakesPrefix-more _ _ (done ++ piece) after (TakesPrefix-after _ _ _ done piece taken c.in-Err.ensures.front));
      room = λ room.
          let now = spared room in
          let no : false ≡ true = (c.in-Err.ensures.room (HasRoom-less _ _ _ now.0 less)).0 in
          let none : ⊥ = cc in
          absurd none;
      uses = Uses-after uses c.in-Err.ensures.uses;
    }

pub loop-rest-preserved : goal.loop-rest-preserved
loop-rest-preserved g c =
    let (done, split, taken, spared, uses) = c.loop-rest.invariant in
    let rest = c.loop-rest.rest.now in
    let n = c.min-count.result in
    let piece = word_bytes (take n rest) in
    let after = word_bytes (left_words rest n) in (
      done ++ piece,
      word_bytes-moves _ done rest n split,
      Appends-trans _ _ _ _ _ taken c.in-Ok.ensures.whole,
      λ h. let (room, spent) = spared h in
          let sizes : length (word_bytes rest) ≡ length piece + length after = ap length (word_bytes-split rest n) ∙ length-append piece after in
          let less : length piece ≤ length (word_bytes rest) = omega (arith, sizes) in
          let now = c.in-Ok.ensures.room (HasRoom-less _ _ _ room less) in (
            HasRoom-rest _ _ (length piece) (length after) (subst (HasRoom _) sizes room) now.1,
            subst (Spends _ _) (sym (length-append done piece)) (Spends-trans _ _ _ _ _ spent now.1),
          ),
      Uses-after uses (Uses-as c.in-Ok.ensures.uses (λ no. absurd no) (λ on. refl)),
    )

pub returns : goal.returns
returns g c =
    let (done, split, taken, spared, uses) = c.loop-rest.invariant in
    let none : length c.loop-rest.rest.now ≡ 0 = eqb-true (length c.loop-rest.rest.now) 0 (sym c.loop-rest-test.ensures) in
    let all : done ≡ word_bytes c.args.words.now = sym (split ∙ (ap (λ (l : List ℕ). done ++ l) (no_words c.loop-rest.rest.now none) ∙ append-nil done)) in
    record {
      whole = subst (Appends _ _) all taken;
      front = TakesPrefix-front _ _ done (word_bytes c.loop-rest.rest.now) _ taken split;
      room = λ room. (refl, subst (λ (l : List ℕ). Spends (g.K.Sink.spare c.args.sink.now) (g.K.Sink.spare c.loop-rest.sink) (length l)) all (spared room).1);
      uses = Uses-as uses (λ is. let no : ⊥ = cc in absurd no) (λ ok. tt);
    }
