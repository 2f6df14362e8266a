use Rattle.std.proofs.Common.{rules, ℕ, ◌≡◌, ◌*◌, IfSome, subst, sym, ap, ◌∙◌, arith}
use Rattle.flp_syntax.specs.declared.syntax.Params.{Params}
use Rattle.flp_circuits.specs.Sizes.{input_len_of}
use Rattle.flp_plan.specs.Counted.{counted_lengths}
use Rattle.flp_generator.specs.Sequence.{sequence_word, taken_by_place}
use Rattle.flp_generator.proofs.maker.Maker.new.Goals as goal

pub returns : goal.returns
returns c =
    let loaded = c.args.loaded.now in
    let first : 0 ≡ 0 * taken_by_place (counted_lengths loaded.plan.circuit) = omega arith in
    record {
      room = record {
        prover = search rules;
        taken = search rules;
        numbers = subst (λ (n : ℕ). IfSome loaded.params (λ (params : Params). n ≡ input_len_of params)) (sym c.in_ok-vec-2.ensures.len) c.number_count.ensures;
        unshared = search rules;
        shares = search rules;
        words = search rules;
      };
      next = c.new.ensures ∙ ap (sequence_word c.args.seed) first;
    }
