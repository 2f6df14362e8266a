-- What a printer has written. Internal: the promise of `print` speaks of the printed tokens and their spelling alone.
use Rattle.std.specs.Prelude.{ℕ, List, ◌++◌, ◌≡◌}
use Rattle.flp_lang.specs.Spelling.{rest_text, tokens_text}
use Rattle.flp_syntax.specs.declared.token.Token.{Token}

-- behind the bytes `old` the tokens `all` were to be written; now there are the bytes `new`, and the tokens `rest` are left
abbrev pub Writes : List ℕ → (List Token → List Token) → List ℕ → (List Token → List Token) → Type 0
Writes old all new rest = (s : List Token) → old ++ rest_text (all s) ≡ new ++ rest_text (rest s)

-- none are left
abbrev pub Wrote : List ℕ → (List Token → List Token) → List ℕ → Type 0
Wrote old all new = Writes old all new (λ s. s)

-- the bytes are these tokens, the first ones of all, whatever follows
abbrev pub WroteAll : (List Token → List Token) → List ℕ → Type 0
WroteAll all new = (s : List Token) → tokens_text (all s) ≡ new ++ rest_text s
