use Rattle.std.proofs.Common.{◌∙◌, refl, ◌+◌}
use Rattle.flp_lang.specs.Ahead as ahead
use Rattle.flp_lang.specs.Ahead.{Ahead, done, next, fixed, range}
use Rattle.flp_lang.specs.Run.{psums}
use Rattle.flp_syntax.specs.View.{kind_of}
use Rattle.flp_syntax.specs.declared.token.Mark.TheVariants.{Semicolon, Equals}
use Rattle.flp_lang.proofs.Moves as moves
use Rattle.flp_lang.proofs.Moves.{fails, level_closed, value_read, more_read, all_read, one_read, list_read, along}
use Rattle.flp_lang.proofs.parser.Parser.decl.Goals as goal

pub returns-in_err-expect-clause-runs : goal.returns-in_err-expect-clause-runs
returns-in_err-expect-clause-runs c = λ K. fails _ _ _ _ _ _ _ _ _ _ c.from_residual.ensures _ (moves.decl_head _ _ K _) (c.in_err-expect.ensures.runs (0, 0) (next ahead.a_naming (λ n. fixed Equals (next ahead.kind (λ v. fixed Semicolon (K (record { at = c.args.self.now.at; name = n; kind = v })))))) refl)

pub returns-in_err-name-clause-runs : goal.returns-in_err-name-clause-runs
returns-in_err-name-clause-runs c = λ K. fails _ _ _ _ _ _ _ _ _ _ c.from_residual-in_err-name.ensures _ (moves.decl_head _ _ K _ ∙ c.in_ok-expect.ensures.runs (0, 0) (next ahead.a_naming (λ n. fixed Equals (next ahead.kind (λ v. fixed Semicolon (K (record { at = c.args.self.now.at; name = n; kind = v })))))) refl) (c.in_err-name.ensures.runs (0, 0) (λ n. fixed Equals (next ahead.kind (λ v. fixed Semicolon (K (record { at = c.args.self.now.at; name = n; kind = v }))))))

pub returns-in_err-expect-2-clause-runs : goal.returns-in_err-expect-2-clause-runs
returns-in_err-expect-2-clause-runs c = λ K. fails _ _ _ _ _ _ _ _ _ _ c.from_residual-in_err-expect-2.ensures _ (moves.decl_head _ _ K _ ∙ c.in_ok-expect.ensures.runs (0, 0) (next ahead.a_naming (λ n. fixed Equals (next ahead.kind (λ v. fixed Semicolon (K (record { at = c.args.self.now.at; name = n; kind = v })))))) refl ∙ c.in_ok-name.ensures.runs (0, 0) (λ n. fixed Equals (next ahead.kind (λ v. fixed Semicolon (K (record { at = c.args.self.now.at; name = n; kind = v })))))) (c.in_err-expect-2.ensures.runs (0, 0) (next ahead.kind (λ v. fixed Semicolon (K (record { at = c.args.self.now.at; name = c.in_ok-name.name; kind = v })))) refl)

pub returns-in_err-kind-clause-runs : goal.returns-in_err-kind-clause-runs
returns-in_err-kind-clause-runs c = λ K. fails _ _ _ _ _ _ _ _ _ _ c.from_residual-in_err-kind.ensures _ (moves.decl_head _ _ K _ ∙ c.in_ok-expect.ensures.runs (0, 0) (next ahead.a_naming (λ n. fixed Equals (next ahead.kind (λ v. fixed Semicolon (K (record { at = c.args.self.now.at; name = n; kind = v })))))) refl ∙ c.in_ok-name.ensures.runs (0, 0) (λ n. fixed Equals (next ahead.kind (λ v. fixed Semicolon (K (record { at = c.args.self.now.at; name = n; kind = v }))))) ∙ c.in_ok-expect-2.ensures.runs (0, 0) (next ahead.kind (λ v. fixed Semicolon (K (record { at = c.args.self.now.at; name = c.in_ok-name.name; kind = v })))) refl) (c.in_err-kind.ensures.runs (λ v. fixed Semicolon (K (record { at = c.args.self.now.at; name = c.in_ok-name.name; kind = v }))))

pub returns-in_err-expect-3-clause-runs : goal.returns-in_err-expect-3-clause-runs
returns-in_err-expect-3-clause-runs c = λ K. fails _ _ _ _ _ _ _ _ _ _ c.from_residual-in_err-expect-3.ensures _ (moves.decl_head _ _ K _ ∙ c.in_ok-expect.ensures.runs (0, 0) (next ahead.a_naming (λ n. fixed Equals (next ahead.kind (λ v. fixed Semicolon (K (record { at = c.args.self.now.at; name = n; kind = v })))))) refl ∙ c.in_ok-name.ensures.runs (0, 0) (λ n. fixed Equals (next ahead.kind (λ v. fixed Semicolon (K (record { at = c.args.self.now.at; name = n; kind = v }))))) ∙ c.in_ok-expect-2.ensures.runs (0, 0) (next ahead.kind (λ v. fixed Semicolon (K (record { at = c.args.self.now.at; name = c.in_ok-name.name; kind = v })))) refl ∙ c.in_ok-kind.ensures.runs (λ v. fixed Semicolon (K (record { at = c.args.self.now.at; name = c.in_ok-name.name; kind = v })))) (c.in_err-expect-3.ensures.runs (0, 0 + psums (kind_of c.in_ok-kind.kind)) (K (record { at = c.args.self.now.at; name = c.in_ok-name.name; kind = (kind_of c.in_ok-kind.kind) })) refl)

pub returns-clause-runs : goal.returns-clause-runs
returns-clause-runs c = λ K. moves.decl_head _ _ K _ ∙ c.in_ok-expect.ensures.runs (0, 0) (next ahead.a_naming (λ n. fixed Equals (next ahead.kind (λ v. fixed Semicolon (K (record { at = c.args.self.now.at; name = n; kind = v })))))) refl ∙ c.in_ok-name.ensures.runs (0, 0) (λ n. fixed Equals (next ahead.kind (λ v. fixed Semicolon (K (record { at = c.args.self.now.at; name = n; kind = v }))))) ∙ c.in_ok-expect-2.ensures.runs (0, 0) (next ahead.kind (λ v. fixed Semicolon (K (record { at = c.args.self.now.at; name = c.in_ok-name.name; kind = v })))) refl ∙ c.in_ok-kind.ensures.runs (λ v. fixed Semicolon (K (record { at = c.args.self.now.at; name = c.in_ok-name.name; kind = v }))) ∙ c.in_ok-expect-3.ensures.runs (0, 0 + psums (kind_of c.in_ok-kind.kind)) (K (record { at = c.args.self.now.at; name = c.in_ok-name.name; kind = (kind_of c.in_ok-kind.kind) })) refl
