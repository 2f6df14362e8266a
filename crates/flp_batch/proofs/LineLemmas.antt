-- The lines of some records and of more.
use Rattle.std.proofs.Common.{◌≡◌, ℕ, List, [], ◌∷◌, ◌++◌, sym, ap, ◌∙◌, append_assoc, append-nil}
use Rattle.flp_batch.specs.Lines.{lines_from, lines_of}

-- the lines of records stand in front of those of the records behind them
pub lines_from-joined : (line : List (List ℕ) → List ℕ → List ℕ) (earlier records more : List (List ℕ))
    → lines_from line earlier (records ++ more) ≡ lines_from line earlier records ++ lines_from line (earlier ++ records) more
lines_from-joined line earlier [] more = ap (λ (e : List (List ℕ)). lines_from line e more) (sym (append-nil earlier))
lines_from-joined line earlier (given ∷ records) more =
    let joined : (earlier ++ given ∷ []) ++ records ≡ earlier ++ given ∷ records = append_assoc earlier (given ∷ []) records in
    ap (λ (l : List ℕ). line earlier given ++ l) (lines_from-joined line (earlier ++ given ∷ []) records more)
    ∙ (ap (λ (e : List (List ℕ)). line earlier given ++ (lines_from line (earlier ++ given ∷ []) records ++ lines_from line e more)) joined
    ∙ sym (append_assoc (line earlier given) (lines_from line (earlier ++ given ∷ []) records) (lines_from line (earlier ++ given ∷ records) more)))

pub lines-joined : (line : List (List ℕ) → List ℕ → List ℕ) (records more : List (List ℕ)) → lines_of line (records ++ more) ≡ lines_of line records ++ lines_from line records more
lines-joined line records more = lines_from-joined line [] records more

-- one record has one line
pub lines_from-one : (line : List (List ℕ) → List ℕ → List ℕ) (earlier : List (List ℕ)) (given : List ℕ) → lines_from line earlier (given ∷ []) ≡ line earlier given
lines_from-one line earlier given = append-nil (line earlier given)
