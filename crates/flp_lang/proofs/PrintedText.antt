-- Statements, declarations and circuits that were read are read again where they are printed, but for their token numbers, under no more levels.
use Rattle.std.proofs.Common.{ℕ, suc, ◌+◌, ◌≡◌, List, [], ◌∷◌, map, codes, refl, sym, subst, ap, ◌∙◌, arith}
use Rattle.flp_lang.specs.Grammar.{IsStmt, a_check, an_out, an_each, IsStmts, some_stmts, MoreStmts, no_stmt, one_more_stmt, IsCoef, a_coef, a_minus_coef, MoreCoefs, no_coef, one_more_coef, IsKind, a_mul, a_poly, a_psum, IsDecl, a_decl, MoreDecls, no_decl, one_more_decl, a_body, IsSetting, a_setting, IsStandard, a_count, a_sum_circuit, a_sumvec, a_histogram, a_multihot, IsCircuit, a_standard, a_program}
use Rattle.flp_syntax.specs.Tree.{Index, Statement, check, out, each, statements, Kind, Declaration, Text, standard, program}
use Rattle.flp_lang.specs.Print.{put_stmt, put_stmts, put_coef, put_coefs, put_kind, put_decl, put_decls, put_setting, put_text}
use Rattle.flp_lang.specs.Bare.{bare_index, bare_stmt, bare_stmts, bare_decl, bare}
use Rattle.flp_lang.specs.Run.{psums}
use Rattle.flp_lang.proofs.Reprint.{Clean, Reprint, Reprints, fits, closed, close, room, up}
use Rattle.flp_lang.proofs.PrintedIndex.{index_printed, range_printed}
use Rattle.flp_lang.proofs.PrintedTree.{expr_printed}
use Rattle.flp_syntax.specs.declared.syntax.Coef.{Coef}
use Rattle.flp_syntax.specs.declared.syntax.Params.{Params}
use Rattle.flp_syntax.specs.declared.token.Token.{Token}
use Rattle.flp_syntax.specs.declared.token.Token.TheVariants.{Fixed}
use Rattle.flp_syntax.specs.declared.token.Mark.TheVariants.{Semicolon, Close}

loop_same : (name : List ℕ) (a b c d : Index) (v w : List Statement) → bare_index a ≡ bare_index c → bare_index b ≡ bare_index d → bare_stmts (statements v) ≡ bare_stmts (statements w) → each 0 name (bare_index a) (bare_index b) (bare_stmts (statements v)) ≡ each 0 name (bare_index c) (bare_index d) (bare_stmts (statements w))
loop_same name a b c d v w p q r = cc

stmts_same : (v w : Statement) (more more' : List Statement) → bare_stmt v ≡ bare_stmt w → bare_stmts (statements more) ≡ bare_stmts (statements more') → bare_stmts (statements (v ∷ more)) ≡ bare_stmts (statements (w ∷ more'))
stmts_same v w more more' e f = cc

mutual
  stmt_printed : {k k' : ℕ} {s s' : List Token} {v : Statement} → IsStmt k s k' s' v → (a : ℕ) → Clean (a, 0) s → Reprints IsStmt bare_stmt (bare_stmt v) (put_stmt v) a × Clean (a, 0) s'
  stmt_printed (a_check {v = v} d) a c =
      let p = expr_printed d a c.2 in (
        (λ a' k u h i.
            let n = fits (a', 0) u i in
            let r = p.0.whole a' (suc k) (Fixed Semicolon ∷ u) h (n, tt, i) in
            record { end = suc r.end; tree = check k r.tree; reads = a_check r.reads; same = ap (check 0) r.same; clean = (n, tt, r.clean) }),
        p.1.2,
      )
  stmt_printed (an_out {v = v} d) a c =
      let p = expr_printed d a c.2 in (
        (λ a' k u h i.
            let n = fits (a', 0) u i in
            let r = p.0.whole a' (suc k) (Fixed Semicolon ∷ u) h (n, tt, i) in
            record { end = suc r.end; tree = out k r.tree; reads = an_out r.reads; same = ap (out 0) r.same; clean = (n, tt, r.clean) }),
        p.1.2,
      )
  stmt_printed (an_each {n = name} {s' = s'} {from = from} {to = to} {stmts = stmts} d e t) a c =
      let p = index_printed d a c.2.2.2 in
      let q = index_printed e a p.1.2 in
      let w = stmts_printed t (suc a) q.1.2 in
      let m = w.1.0 in (
        (λ a' k u h i.
            let n = fits (a', 0) u i in
            let inner : Clean (suc a', 0) (Fixed Close ∷ u) = close a' u (room a a' h m) i in
            let z = range_printed name from to a c.2.1 p.0 q.0 a' k (put_stmts (statements stmts) (Fixed Close ∷ u)) h n ((w.0 (suc a') k (Fixed Close ∷ u) (up a a' h) inner).clean) in
            let r = w.0 (suc a') (suc z.end) (Fixed Close ∷ u) (up a a' h) inner in
            record { end = suc r.end; tree = each k name z.first z.last (statements r.tree); reads = an_each z.first_reads z.last_reads r.reads; same = loop_same name z.first z.last from to r.tree stmts z.first_same z.last_same r.same; clean = (n, tt, z.clean) }),
        closed a s' w.1.2,
      )

  stmts_printed : {k k' : ℕ} {s s' : List Token} {v : List Statement} → IsStmts k s k' s' v → (a : ℕ) → Clean (a, 0) s → Reprints IsStmts (λ (xs : List Statement). bare_stmts (statements xs)) (bare_stmts (statements v)) (put_stmts (statements v)) a × Clean (a, 0) s'
  stmts_printed (some_stmts {v = v} {more = more} d m) a c =
      let f = stmt_printed d a c in
      let g = more_stmts_printed m a f.1 in (
        (λ a' k u h i.
            let r = f.0 a' k (put_stmts (statements more) u) h ((g.0 a' k u h i).clean) in
            let q = g.0 a' r.end u h i in
            record { end = q.end; tree = r.tree ∷ q.tree; reads = some_stmts r.reads q.reads; same = stmts_same r.tree v q.tree more r.same q.same; clean = r.clean }),
        g.1,
      )

  more_stmts_printed : {k k' : ℕ} {s s' : List Token} {v : List Statement} → MoreStmts k s k' s' v → (a : ℕ) → Clean (a, 0) s → Reprints MoreStmts (λ (xs : List Statement). bare_stmts (statements xs)) (bare_stmts (statements v)) (put_stmts (statements v)) a × Clean (a, 0) s'
  more_stmts_printed no_stmt a c = ((λ a' k u h i. record { end = k; tree = []; reads = no_stmt; same = refl; clean = i }), c)
  more_stmts_printed (one_more_stmt {v = v} {more = more} d m) a c =
      let f = stmt_printed d a c in
      let g = more_stmts_printed m a f.1 in (
        (λ a' k u h i.
            let r = f.0 a' k (put_stmts (statements more) u) h ((g.0 a' k u h i).clean) in
            let q = g.0 a' r.end u h i in
            record { end = q.end; tree = r.tree ∷ q.tree; reads = one_more_stmt r.reads q.reads; same = stmts_same r.tree v q.tree more r.same q.same; clean = r.clean }),
        g.1,
      )

-- parts without token numbers are read again as they are, under the same levels
pub record Again {A : Type 0} (R : ℕ → List Token → ℕ → List Token → A → Type 0) (v : A) (put : List Token → List Token) (l : ℕ × ℕ) (k : ℕ) (u : List Token) : Type 0 where
  pub end : ℕ
  pub reads : R k (put u) end u v
  pub clean : Clean l (put u)

abbrev Agains : {A : Type 0} → (ℕ → List Token → ℕ → List Token → A → Type 0) → A → (List Token → List Token) → ℕ × ℕ → ℕ × ℕ → Type 0
Agains R v put l l' = (k : ℕ) (u : List Token) → Clean l' u → Again R v put l k u

coef_printed : {k k' : ℕ} {s s' : List Token} {v : Coef} → IsCoef k s k' s' v → (l : ℕ × ℕ) → Clean l s → Agains IsCoef v (put_coef v) l l × Clean l s'
coef_printed (a_coef {n = n}) l c = ((λ k u i. record { end = suc k; reads = a_coef; clean = (fits l u i, c.1, i) }), c.2)
coef_printed (a_minus_coef {n = n}) l c = ((λ k u i. let m = fits l u i in record { end = suc (suc k); reads = a_minus_coef; clean = (m, tt, (m, c.2.1, i)) }), c.2.2)

coefs_printed : {k k' : ℕ} {s s' : List Token} {v : List Coef} → MoreCoefs k s k' s' v → (l : ℕ × ℕ) → Clean l s → Agains MoreCoefs v (put_coefs v) l l × Clean l s'
coefs_printed no_coef l c = ((λ k u i. record { end = k; reads = no_coef; clean = i }), c)
coefs_printed (one_more_coef {v = v} {more = more} d m) l c =
    let f = coef_printed d l c in
    let g = coefs_printed m l f.1 in (
      (λ k u i.
          let r = f.0 k (put_coefs more u) ((g.0 k u i).clean) in
          let q = g.0 r.end u i in
          record { end = q.end; reads = one_more_coef r.reads q.reads; clean = r.clean }),
      g.1,
    )

kind_printed : {k k' : ℕ} {s s' : List Token} {v : Kind} → IsKind k s k' s' v → (a b : ℕ) → Clean (a, b) s → Agains IsKind v (put_kind v) (a, b) (a, psums v + b) × Clean (a, psums v + b) s'
kind_printed (a_mul {s = s}) a b c = let e : b ≡ 0 + b = omega arith in ((λ k u i. let j : Clean (a, b) u = subst (λ (n : ℕ). Clean (a, n) u) (sym e) i in record { end = suc k; reads = a_mul; clean = (fits (a, b) u j, tt, j) }), subst (λ (n : ℕ). Clean (a, n) s) e c.2)
kind_printed (a_poly {s' = s'} {v = v} {more = more} d m) a b c =
    let e : b ≡ 0 + b = omega arith in
    let f = coef_printed d (a, b) c.2 in
    let g = coefs_printed m (a, b) f.1 in (
      (λ k u i.
          let j : Clean (a, b) u = subst (λ (n : ℕ). Clean (a, n) u) (sym e) i in
          let r = f.0 (suc k) (put_coefs more u) ((g.0 k u j).clean) in
          let q = g.0 r.end u j in
          record { end = q.end; reads = a_poly r.reads q.reads; clean = (fits (a, b) u j, tt, r.clean) }),
      subst (λ (n : ℕ). Clean (a, n) s') e g.1,
    )
kind_printed (a_psum {n = n} {s' = s'} {v = v} d) a b c =
    let e : psums v + suc b ≡ suc (psums v) + b = omega arith in
    let f = kind_printed d a (suc b) c.2.2 in (
      (λ k u i.
          let r = f.0 (suc (suc k)) u (subst (λ (n : ℕ). Clean (a, n) u) (sym e) i) in
          record { end = r.end; reads = a_psum r.reads; clean = (c.0, tt, (c.2.0, c.2.1, r.clean)) }),
      subst (λ (n : ℕ). Clean (a, n) s') e f.1,
    )

decl_printed : {k k' : ℕ} {s s' : List Token} {v : Declaration} → IsDecl k s k' s' v → Clean (0, 0) s → ((k : ℕ) (u : List Token) → Clean (0, 0) u → Reprint IsDecl bare_decl (bare_decl v) (put_decl v) (0, 0) k u) × Clean (0, 0) s'
decl_printed (a_decl {n = name} {v = v} d) c =
    let f = kind_printed d 0 0 c.2.2.2 in
    let m = f.1.0 in (
      (λ k u i.
          let r = f.0 (suc (suc (suc k))) (Fixed Semicolon ∷ u) (m, tt, i) in
          record { end = suc r.end; tree = record { at = k; name = name; kind = v }; reads = a_decl r.reads; same = refl; clean = (c.0, tt, (c.0, c.2.1, (c.0, tt, r.clean))) }),
      f.1.2,
    )

decls_same : (v w : Declaration) (more more' : List Declaration) → bare_decl v ≡ bare_decl w → map bare_decl more ≡ map bare_decl more' → map bare_decl (v ∷ more) ≡ map bare_decl (w ∷ more')
decls_same v w more more' e f = cc

decls_printed : {k k' : ℕ} {s s' : List Token} {v : List Declaration} → MoreDecls k s k' s' v → Clean (0, 0) s → ((k : ℕ) (u : List Token) → Clean (0, 0) u → Reprint MoreDecls (map bare_decl) (map bare_decl v) (put_decls v) (0, 0) k u) × Clean (0, 0) s'
decls_printed no_decl c = ((λ k u i. record { end = k; tree = []; reads = no_decl; same = refl; clean = i }), c)
decls_printed (one_more_decl {v = v} {more = more} d m) c =
    let f = decl_printed d c in
    let g = decls_printed m f.1 in (
      (λ k u i.
          let r = f.0 k (put_decls more u) ((g.0 k u i).clean) in
          let q = g.0 r.end u i in
          record { end = q.end; tree = r.tree ∷ q.tree; reads = one_more_decl r.reads q.reads; same = decls_same r.tree v q.tree more r.same q.same; clean = r.clean }),
      g.1,
    )

program_same : (m j : ℕ) (ds es : List Declaration) (vs ws : List Statement) → map bare_decl ds ≡ map bare_decl es → bare_stmts (statements vs) ≡ bare_stmts (statements ws)
    → bare (program (record { meas = m; joint = j; gadgets = ds; stmts = statements vs })) ≡ bare (program (record { meas = m; joint = j; gadgets = es; stmts = statements ws }))
program_same m j ds es vs ws e f = ap (λ (gs : List Declaration). program (record { meas = m; joint = j; gadgets = gs; stmts = bare_stmts (statements vs) })) e ∙ ap (λ x. program (record { meas = m; joint = j; gadgets = map bare_decl es; stmts = x })) f

-- a setting's tokens carry no level
setting_printed : {name : List ℕ} {k k' : ℕ} {s s' : List Token} {v : ℕ} → IsSetting name k s k' s' v → (l : ℕ × ℕ) → Clean l s → Agains (IsSetting name) v (put_setting name v) l l × Clean l s'
setting_printed a_setting l c = ((λ k u i. record { end = suc (suc (suc k)); reads = a_setting; clean = (c.0, c.1, (c.2.0, tt, (c.2.2.0, c.2.2.1, i))) }), c.2.2.2)

standard_printed : {k k' : ℕ} {s s' : List Token} {v : Params} → IsStandard k s k' s' v → Clean (0, 0) s → Agains IsStandard v (put_text (standard v)) (0, 0) (0, 0)
standard_printed a_count c = λ k u i. record { end = suc (suc (suc k)); reads = a_count; clean = (c.0, tt, (c.0, c.2.1, (c.0, tt, i))) }
standard_printed (a_sum_circuit m) c = λ k u i.
    let f = setting_printed m (0, 0) c.2.2 in
    let r = f.0 (suc (suc k)) (Fixed Semicolon ∷ u) (c.0, tt, i) in
    record { end = suc r.end; reads = a_sum_circuit r.reads; clean = (c.0, tt, (c.0, tt, r.clean)) }
standard_printed (a_sumvec {l = l} {b = b} {c = h} m n o) c = λ k u i.
    let f = setting_printed m (0, 0) c.2.2 in
    let g = setting_printed n (0, 0) f.1 in
    let p = setting_printed o (0, 0) g.1 in
    let third = put_setting (codes "chunk") h (Fixed Semicolon ∷ u) in
    let r = f.0 (suc (suc k)) (put_setting (codes "bits") b third) ((g.0 k third ((p.0 k (Fixed Semicolon ∷ u) (c.0, tt, i)).clean)).clean) in
    let q = g.0 r.end third ((p.0 k (Fixed Semicolon ∷ u) (c.0, tt, i)).clean) in
    let z = p.0 q.end (Fixed Semicolon ∷ u) (c.0, tt, i) in
    record { end = suc z.end; reads = a_sumvec r.reads q.reads z.reads; clean = (c.0, tt, (c.0, c.2.1, r.clean)) }
standard_printed (a_histogram {c = h} m o) c = λ k u i.
    let f = setting_printed m (0, 0) c.2.2 in
    let p = setting_printed o (0, 0) f.1 in
    let r = f.0 (suc (suc k)) (put_setting (codes "chunk") h (Fixed Semicolon ∷ u)) ((p.0 k (Fixed Semicolon ∷ u) (c.0, tt, i)).clean) in
    let z = p.0 r.end (Fixed Semicolon ∷ u) (c.0, tt, i) in
    record { end = suc z.end; reads = a_histogram r.reads z.reads; clean = (c.0, tt, (c.0, c.2.1, r.clean)) }
standard_printed (a_multihot {w = w} {c = h} m n o) c = λ k u i.
    let f = setting_printed m (0, 0) c.2.2 in
    let g = setting_printed n (0, 0) f.1 in
    let p = setting_printed o (0, 0) g.1 in
    let third = put_setting (codes "chunk") h (Fixed Semicolon ∷ u) in
    let r = f.0 (suc (suc k)) (put_setting (codes "weight") w third) ((g.0 k third ((p.0 k (Fixed Semicolon ∷ u) (c.0, tt, i)).clean)).clean) in
    let q = g.0 r.end third ((p.0 k (Fixed Semicolon ∷ u) (c.0, tt, i)).clean) in
    let z = p.0 q.end (Fixed Semicolon ∷ u) (c.0, tt, i) in
    record { end = suc z.end; reads = a_multihot r.reads q.reads z.reads; clean = (c.0, tt, (c.0, c.2.1, r.clean)) }

-- a whole circuit
pub circuit_printed : {k k' : ℕ} {s s' : List Token} {v : Text} → IsCircuit k s k' s' v → Clean (0, 0) s → (k : ℕ) (u : List Token) → Clean (0, 0) u → Reprint IsCircuit bare (bare v) (put_text v) (0, 0) k u
circuit_printed (a_standard {v = v} d) c = λ k u i.
    let r = standard_printed d c k u i in
    record { end = r.end; tree = standard v; reads = a_standard r.reads; same = refl; clean = r.clean }
circuit_printed (a_program (a_body {m = m} {j = j} {v = v} {more = more} {stmts = stmts} d ds ss)) c = λ k u i.
    let n = c.0 in
    let f = decl_printed d c.2.2.2.2.2.2 in
    let g = decls_printed ds f.1 in
    let h = stmts_printed ss 0 g.1 in
    let tail = (h.0 0 k u (omega arith) i).clean in
    let middle = (g.0 k (put_stmts (statements stmts) u) tail).clean in
    let p = f.0 (suc (suc (suc (suc (suc (suc k)))))) (put_decls more (put_stmts (statements stmts) u)) middle in
    let q = g.0 p.end (put_stmts (statements stmts) u) tail in
    let r = h.0 0 q.end u (omega arith) i in
    record {
      end = r.end;
      tree = program (record { meas = m; joint = j; gadgets = p.tree ∷ q.tree; stmts = statements r.tree });
      reads = a_program (a_body p.reads q.reads r.reads);
      same = program_same m j (p.tree ∷ q.tree) (v ∷ more) r.tree stmts (decls_same p.tree v q.tree more p.same q.same) r.same;
      clean = (n, tt, (n, c.2.1, (n, tt, (n, tt, (n, c.2.2.2.2.1, (n, tt, p.clean))))));
    }
