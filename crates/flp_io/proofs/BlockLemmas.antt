-- How what a block did at several pieces adds up.
use Rattle.std.proofs.Common.{◌≡◌, ℕ, List, [], ◌++◌, Option, refl, sym, ap, ◌∙◌, subst, append_assoc, append-nil}
use Rattle.std.specs.Io.KnownBytes.{Appends}
use Rattle.std.proofs.KnownBytes.{Appends-nil, Appends-trans}
use Rattle.flp_io.specs.Block.{Passes}
use Rattle.flp_io.proofs.UsesLemmas.{Uses-none, Uses-after, Uses-as}
use Rattle.flp_io.proofs.WriteLemmas.{TakesPrefix-refl, TakesPrefix-more, TakesPrefix-after}

-- all is held back
pub Passes-held : (a : Option (List ℕ)) (held piece : List ℕ) → Passes a held piece a (held ++ piece)
Passes-held a held piece = record { out = []; written = Appends-nil a; split = refl }

-- what was held went out, and the piece is held
pub Passes-next : (a b : Option (List ℕ)) (held piece : List ℕ) → Appends a b held → Passes a held piece b ([] ++ piece)
Passes-next a b held piece p = record { out = held; written = p; split = refl }

-- what was held and the piece went out
pub Passes-all : (a b c : Option (List ℕ)) (held piece : List ℕ) → Appends a b held → Appends b c piece → Passes a held piece c []
Passes-all a b c held piece p q = record { out = held ++ piece; written = Appends-trans a b c held piece p q; split = sym (append-nil (held ++ piece)) }

-- two pushes are one of the pieces joined
pub Passes-join : (a b c : Option (List ℕ)) (held held' held'' piece more : List ℕ) → Passes a held piece b held' → Passes b held' more c held'' → Passes a held (piece ++ more) c held''
Passes-join a b c held held' held'' piece more p q =
    let first : held ++ (piece ++ more) ≡ (p.out ++ held') ++ more = sym (append_assoc held piece more) ∙ ap (λ l. l ++ more) p.split in
    let second : (p.out ++ held') ++ more ≡ (p.out ++ q.out) ++ held'' = append_assoc p.out held' more ∙ ap (λ l. p.out ++ l) q.split ∙ sym (append_assoc p.out q.out held'') in
    record { out = p.out ++ q.out; written = Appends-trans a b c p.out q.out p.written q.written; split = first ∙ second }

-- a push and then what is held written is all written
pub Passes-flushed : (a b c : Option (List ℕ)) (held held' piece : List ℕ) → Passes a held piece b held' → Appends b c held' → Appends a c (held ++ piece)
Passes-flushed a b c held held' piece p q = subst (Appends a c) (sym p.split) (Appends-trans a b c p.out held' p.written q)

-- what `push` needs
pub ruleset block_steps = (Passes-held, Passes-next, Passes-all, TakesPrefix-refl, TakesPrefix-more, TakesPrefix-after, Uses-none, Uses-after, Uses-as)
