use Rattle.std.proofs.Common.{◌∙◌, refl, ◌∷◌, map}
use Rattle.flp_lang.specs.Ahead as ahead
use Rattle.flp_lang.specs.Ahead.{Ahead, done, next, fixed, range}
use Rattle.flp_syntax.specs.Tree.{statements}
use Rattle.flp_syntax.specs.View.{declaration_of}
use Rattle.flp_syntax.specs.declared.token.Mark.TheVariants.{Semicolon, Joint}
use Rattle.flp_lang.proofs.Moves as moves
use Rattle.flp_lang.proofs.Moves.{fails, level_closed, value_read, more_read, all_read, one_read, list_read, along}
use Rattle.flp_lang.proofs.parser.Parser.body.Goals as goal

pub returns-in_err-expect : goal.returns-in_err-expect
returns-in_err-expect c = λ K. fails _ _ _ _ _ _ _ _ _ _ c.from_residual.ensures _ (moves.body_head _ _ K _) (c.in_err-expect.ensures.runs (0, 0) (next ahead.a_numeral (λ m. fixed Semicolon (fixed Joint (next ahead.a_numeral (λ j. fixed Semicolon (next ahead.decl (λ v. next ahead.more_decls (λ more. next ahead.stmts (λ w. K (record { meas = m; joint = j; gadgets = v ∷ more; stmts = statements w })))))))))) refl)

pub returns-in_err-meas : goal.returns-in_err-meas
returns-in_err-meas c = λ K. fails _ _ _ _ _ _ _ _ _ _ c.from_residual-in_err-meas.ensures _ (moves.body_head _ _ K _ ∙ c.in_ok-expect.ensures.runs (0, 0) (next ahead.a_numeral (λ m. fixed Semicolon (fixed Joint (next ahead.a_numeral (λ j. fixed Semicolon (next ahead.decl (λ v. next ahead.more_decls (λ more. next ahead.stmts (λ w. K (record { meas = m; joint = j; gadgets = v ∷ more; stmts = statements w })))))))))) refl) (c.in_err-meas.ensures.runs (0, 0) (λ m. fixed Semicolon (fixed Joint (next ahead.a_numeral (λ j. fixed Semicolon (next ahead.decl (λ v. next ahead.more_decls (λ more. next ahead.stmts (λ w. K (record { meas = m; joint = j; gadgets = v ∷ more; stmts = statements w }))))))))))

pub returns-in_err-expect-2 : goal.returns-in_err-expect-2
returns-in_err-expect-2 c = λ K. fails _ _ _ _ _ _ _ _ _ _ c.from_residual-in_err-expect-2.ensures _ (moves.body_head _ _ K _ ∙ c.in_ok-expect.ensures.runs (0, 0) (next ahead.a_numeral (λ m. fixed Semicolon (fixed Joint (next ahead.a_numeral (λ j. fixed Semicolon (next ahead.decl (λ v. next ahead.more_decls (λ more. next ahead.stmts (λ w. K (record { meas = m; joint = j; gadgets = v ∷ more; stmts = statements w })))))))))) refl ∙ c.in_ok-meas.ensures.runs (0, 0) (λ m. fixed Semicolon (fixed Joint (next ahead.a_numeral (λ j. fixed Semicolon (next ahead.decl (λ v. next ahead.more_decls (λ more. next ahead.stmts (λ w. K (record { meas = m; joint = j; gadgets = v ∷ more; stmts = statements w })))))))))) (c.in_err-expect-2.ensures.runs (0, 0) (fixed Joint (next ahead.a_numeral (λ j. fixed Semicolon (next ahead.decl (λ v. next ahead.more_decls (λ more. next ahead.stmts (λ w. K (record { meas = c.in_ok-meas.meas; joint = j; gadgets = v ∷ more; stmts = statements w })))))))) refl)

pub returns-in_err-expect-3 : goal.returns-in_err-expect-3
returns-in_err-expect-3 c = λ K. fails _ _ _ _ _ _ _ _ _ _ c.from_residual-in_err-expect-3.ensures _ (moves.body_head _ _ K _ ∙ c.in_ok-expect.ensures.runs (0, 0) (next ahead.a_numeral (λ m. fixed Semicolon (fixed Joint (next ahead.a_numeral (λ j. fixed Semicolon (next ahead.decl (λ v. next ahead.more_decls (λ more. next ahead.stmts (λ w. K (record { meas = m; joint = j; gadgets = v ∷ more; stmts = statements w })))))))))) refl ∙ c.in_ok-meas.ensures.runs (0, 0) (λ m. fixed Semicolon (fixed Joint (next ahead.a_numeral (λ j. fixed Semicolon (next ahead.decl (λ v. next ahead.more_decls (λ more. next ahead.stmts (λ w. K (record { meas = m; joint = j; gadgets = v ∷ more; stmts = statements w }))))))))) ∙ c.in_ok-expect-2.ensures.runs (0, 0) (fixed Joint (next ahead.a_numeral (λ j. fixed Semicolon (next ahead.decl (λ v. next ahead.more_decls (λ more. next ahead.stmts (λ w. K (record { meas = c.in_ok-meas.meas; joint = j; gadgets = v ∷ more; stmts = statements w })))))))) refl) (c.in_err-expect-3.ensures.runs (0, 0) (next ahead.a_numeral (λ j. fixed Semicolon (next ahead.decl (λ v. next ahead.more_decls (λ more. next ahead.stmts (λ w. K (record { meas = c.in_ok-meas.meas; joint = j; gadgets = v ∷ more; stmts = statements w }))))))) refl)

pub returns-in_err-joint : goal.returns-in_err-joint
returns-in_err-joint c = λ K. fails _ _ _ _ _ _ _ _ _ _ c.from_residual-in_err-joint.ensures _ (moves.body_head _ _ K _ ∙ c.in_ok-expect.ensures.runs (0, 0) (next ahead.a_numeral (λ m. fixed Semicolon (fixed Joint (next ahead.a_numeral (λ j. fixed Semicolon (next ahead.decl (λ v. next ahead.more_decls (λ more. next ahead.stmts (λ w. K (record { meas = m; joint = j; gadgets = v ∷ more; stmts = statements w })))))))))) refl ∙ c.in_ok-meas.ensures.runs (0, 0) (λ m. fixed Semicolon (fixed Joint (next ahead.a_numeral (λ j. fixed Semicolon (next ahead.decl (λ v. next ahead.more_decls (λ more. next ahead.stmts (λ w. K (record { meas = m; joint = j; gadgets = v ∷ more; stmts = statements w }))))))))) ∙ c.in_ok-expect-2.ensures.runs (0, 0) (fixed Joint (next ahead.a_numeral (λ j. fixed Semicolon (next ahead.decl (λ v. next ahead.more_decls (λ more. next ahead.stmts (λ w. K (record { meas = c.in_ok-meas.meas; joint = j; gadgets = v ∷ more; stmts = statements w })))))))) refl ∙ c.in_ok-expect-3.ensures.runs (0, 0) (next ahead.a_numeral (λ j. fixed Semicolon (next ahead.decl (λ v. next ahead.more_decls (λ more. next ahead.stmts (λ w. K (record { meas = c.in_ok-meas.meas; joint = j; gadgets = v ∷ more; stmts = statements w }))))))) refl) (c.in_err-joint.ensures.runs (0, 0) (λ j. fixed Semicolon (next ahead.decl (λ v. next ahead.more_decls (λ more. next ahead.stmts (λ w. K (record { meas = c.in_ok-meas.meas; joint = j; gadgets = v ∷ more; stmts = statements w })))))))

pub returns-in_err-expect-4 : goal.returns-in_err-expect-4
returns-in_err-expect-4 c = λ K. fails _ _ _ _ _ _ _ _ _ _ c.from_residual-in_err-expect-4.ensures _ (moves.body_head _ _ K _ ∙ c.in_ok-expect.ensures.runs (0, 0) (next ahead.a_numeral (λ m. fixed Semicolon (fixed Joint (next ahead.a_numeral (λ j. fixed Semicolon (next ahead.decl (λ v. next ahead.more_decls (λ more. next ahead.stmts (λ w. K (record { meas = m; joint = j; gadgets = v ∷ more; stmts = statements w })))))))))) refl ∙ c.in_ok-meas.ensures.runs (0, 0) (λ m. fixed Semicolon (fixed Joint (next ahead.a_numeral (λ j. fixed Semicolon (next ahead.decl (λ v. next ahead.more_decls (λ more. next ahead.stmts (λ w. K (record { meas = m; joint = j; gadgets = v ∷ more; stmts = statements w }))))))))) ∙ c.in_ok-expect-2.ensures.runs (0, 0) (fixed Joint (next ahead.a_numeral (λ j. fixed Semicolon (next ahead.decl (λ v. next ahead.more_decls (λ more. next ahead.stmts (λ w. K (record { meas = c.in_ok-meas.meas; joint = j; gadgets = v ∷ more; stmts = statements w })))))))) refl ∙ c.in_ok-expect-3.ensures.runs (0, 0) (next ahead.a_numeral (λ j. fixed Semicolon (next ahead.decl (λ v. next ahead.more_decls (λ more. next ahead.stmts (λ w. K (record { meas = c.in_ok-meas.meas; joint = j; gadgets = v ∷ more; stmts = statements w }))))))) refl ∙ c.in_ok-joint.ensures.runs (0, 0) (λ j. fixed Semicolon (next ahead.decl (λ v. next ahead.more_decls (λ more. next ahead.stmts (λ w. K (record { meas = c.in_ok-meas.meas; joint = j; gadgets = v ∷ more; stmts = statements w }))))))) (c.in_err-expect-4.ensures.runs (0, 0) (next ahead.decl (λ v. next ahead.more_decls (λ more. next ahead.stmts (λ w. K (record { meas = c.in_ok-meas.meas; joint = c.in_ok-joint.joint; gadgets = v ∷ more; stmts = statements w }))))) refl)

pub returns-in_err-gadgets : goal.returns-in_err-gadgets
returns-in_err-gadgets c = λ K. fails _ _ _ _ _ _ _ _ _ _ c.from_residual-in_err-gadgets.ensures _ (moves.body_head _ _ K _ ∙ c.in_ok-expect.ensures.runs (0, 0) (next ahead.a_numeral (λ m. fixed Semicolon (fixed Joint (next ahead.a_numeral (λ j. fixed Semicolon (next ahead.decl (λ v. next ahead.more_decls (λ more. next ahead.stmts (λ w. K (record { meas = m; joint = j; gadgets = v ∷ more; stmts = statements w })))))))))) refl ∙ c.in_ok-meas.ensures.runs (0, 0) (λ m. fixed Semicolon (fixed Joint (next ahead.a_numeral (λ j. fixed Semicolon (next ahead.decl (λ v. next ahead.more_decls (λ more. next ahead.stmts (λ w. K (record { meas = m; joint = j; gadgets = v ∷ more; stmts = statements w }))))))))) ∙ c.in_ok-expect-2.ensures.runs (0, 0) (fixed Joint (next ahead.a_numeral (λ j. fixed Semicolon (next ahead.decl (λ v. next ahead.more_decls (λ more. next ahead.stmts (λ w. K (record { meas = c.in_ok-meas.meas; joint = j; gadgets = v ∷ more; stmts = statements w })))))))) refl ∙ c.in_ok-expect-3.ensures.runs (0, 0) (next ahead.a_numeral (λ j. fixed Semicolon (next ahead.decl (λ v. next ahead.more_decls (λ more. next ahead.stmts (λ w. K (record { meas = c.in_ok-meas.meas; joint = j; gadgets = v ∷ more; stmts = statements w }))))))) refl ∙ c.in_ok-joint.ensures.runs (0, 0) (λ j. fixed Semicolon (next ahead.decl (λ v. next ahead.more_decls (λ more. next ahead.stmts (λ w. K (record { meas = c.in_ok-meas.meas; joint = j; gadgets = v ∷ more; stmts = statements w })))))) ∙ c.in_ok-expect-4.ensures.runs (0, 0) (next ahead.decl (λ v. next ahead.more_decls (λ more. next ahead.stmts (λ w. K (record { meas = c.in_ok-meas.meas; joint = c.in_ok-joint.joint; gadgets = v ∷ more; stmts = statements w }))))) refl) (c.in_err-gadgets.ensures (λ gs. next ahead.stmts (λ w. K (record { meas = c.in_ok-meas.meas; joint = c.in_ok-joint.joint; gadgets = gs; stmts = statements w }))))

pub returns-in_err-stmts : goal.returns-in_err-stmts
returns-in_err-stmts c = λ K. fails _ _ _ _ _ _ _ _ _ _ c.from_residual-in_err-stmts.ensures _ (moves.body_head _ _ K _ ∙ c.in_ok-expect.ensures.runs (0, 0) (next ahead.a_numeral (λ m. fixed Semicolon (fixed Joint (next ahead.a_numeral (λ j. fixed Semicolon (next ahead.decl (λ v. next ahead.more_decls (λ more. next ahead.stmts (λ w. K (record { meas = m; joint = j; gadgets = v ∷ more; stmts = statements w })))))))))) refl ∙ c.in_ok-meas.ensures.runs (0, 0) (λ m. fixed Semicolon (fixed Joint (next ahead.a_numeral (λ j. fixed Semicolon (next ahead.decl (λ v. next ahead.more_decls (λ more. next ahead.stmts (λ w. K (record { meas = m; joint = j; gadgets = v ∷ more; stmts = statements w }))))))))) ∙ c.in_ok-expect-2.ensures.runs (0, 0) (fixed Joint (next ahead.a_numeral (λ j. fixed Semicolon (next ahead.decl (λ v. next ahead.more_decls (λ more. next ahead.stmts (λ w. K (record { meas = c.in_ok-meas.meas; joint = j; gadgets = v ∷ more; stmts = statements w })))))))) refl ∙ c.in_ok-expect-3.ensures.runs (0, 0) (next ahead.a_numeral (λ j. fixed Semicolon (next ahead.decl (λ v. next ahead.more_decls (λ more. next ahead.stmts (λ w. K (record { meas = c.in_ok-meas.meas; joint = j; gadgets = v ∷ more; stmts = statements w }))))))) refl ∙ c.in_ok-joint.ensures.runs (0, 0) (λ j. fixed Semicolon (next ahead.decl (λ v. next ahead.more_decls (λ more. next ahead.stmts (λ w. K (record { meas = c.in_ok-meas.meas; joint = j; gadgets = v ∷ more; stmts = statements w })))))) ∙ c.in_ok-expect-4.ensures.runs (0, 0) (next ahead.decl (λ v. next ahead.more_decls (λ more. next ahead.stmts (λ w. K (record { meas = c.in_ok-meas.meas; joint = c.in_ok-joint.joint; gadgets = v ∷ more; stmts = statements w }))))) refl ∙ c.in_ok-gadgets.ensures (λ gs. next ahead.stmts (λ w. K (record { meas = c.in_ok-meas.meas; joint = c.in_ok-joint.joint; gadgets = gs; stmts = statements w })))) (c.in_err-stmts.ensures.runs (λ w. K (record { meas = c.in_ok-meas.meas; joint = c.in_ok-joint.joint; gadgets = (map declaration_of c.in_ok-gadgets.gadgets.items); stmts = statements w })))

pub returns : goal.returns
returns c = λ K. moves.body_head _ _ K _ ∙ c.in_ok-expect.ensures.runs (0, 0) (next ahead.a_numeral (λ m. fixed Semicolon (fixed Joint (next ahead.a_numeral (λ j. fixed Semicolon (next ahead.decl (λ v. next ahead.more_decls (λ more. next ahead.stmts (λ w. K (record { meas = m; joint = j; gadgets = v ∷ more; stmts = statements w })))))))))) refl ∙ c.in_ok-meas.ensures.runs (0, 0) (λ m. fixed Semicolon (fixed Joint (next ahead.a_numeral (λ j. fixed Semicolon (next ahead.decl (λ v. next ahead.more_decls (λ more. next ahead.stmts (λ w. K (record { meas = m; joint = j; gadgets = v ∷ more; stmts = statements w }))))))))) ∙ c.in_ok-expect-2.ensures.runs (0, 0) (fixed Joint (next ahead.a_numeral (λ j. fixed Semicolon (next ahead.decl (λ v. next ahead.more_decls (λ more. next ahead.stmts (λ w. K (record { meas = c.in_ok-meas.meas; joint = j; gadgets = v ∷ more; stmts = statements w })))))))) refl ∙ c.in_ok-expect-3.ensures.runs (0, 0) (next ahead.a_numeral (λ j. fixed Semicolon (next ahead.decl (λ v. next ahead.more_decls (λ more. next ahead.stmts (λ w. K (record { meas = c.in_ok-meas.meas; joint = j; gadgets = v ∷ more; stmts = statements w }))))))) refl ∙ c.in_ok-joint.ensures.runs (0, 0) (λ j. fixed Semicolon (next ahead.decl (λ v. next ahead.more_decls (λ more. next ahead.stmts (λ w. K (record { meas = c.in_ok-meas.meas; joint = j; gadgets = v ∷ more; stmts = statements w })))))) ∙ c.in_ok-expect-4.ensures.runs (0, 0) (next ahead.decl (λ v. next ahead.more_decls (λ more. next ahead.stmts (λ w. K (record { meas = c.in_ok-meas.meas; joint = c.in_ok-joint.joint; gadgets = v ∷ more; stmts = statements w }))))) refl ∙ c.in_ok-gadgets.ensures (λ gs. next ahead.stmts (λ w. K (record { meas = c.in_ok-meas.meas; joint = c.in_ok-joint.joint; gadgets = gs; stmts = statements w }))) ∙ c.in_ok-stmts.ensures.runs (λ w. K (record { meas = c.in_ok-meas.meas; joint = c.in_ok-joint.joint; gadgets = (map declaration_of c.in_ok-gadgets.gadgets.items); stmts = statements w })) ∙ value_read _ _ _ K _ _ (rw (c.value.ensures.same, c.value-2.ensures.same, c.from_vec.ensures, c.from_vec-2.ensures) refl)
