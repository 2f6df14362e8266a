-- What was written, step by step.
use Rattle.std.proofs.Common.{ℕ, List, [], ◌∷◌, ◌++◌, ◌≡◌, sym, ap, ◌∙◌, append_assoc, ◌+◌, ◌<◌, suc, length, drop, get_or, map, add-one, drop-cons, Result, Ok, Err, OnOk}
use Rattle.flp_lang.specs.Spelling.{mark_text, spelling, rest_text, tokens_text}
use Rattle.flp_lang.specs.Written.{Wrote, WroteAll}
use Rattle.flp_syntax.specs.declared.token.Mark.{Mark}
use Rattle.flp_syntax.specs.declared.token.Token.{Token}
use Rattle.flp_syntax.specs.declared.token.Token.TheVariants.{Fixed}
use Rattle.std.specs.declared.alloc.AllocError.{AllocError}
use Rattle.flp_syntax.specs.declared.syntax.IdxItem.{IdxItem, out-IdxItem, roll-out-IdxItem}
use Rattle.flp_syntax.specs.declared.syntax.Item.{Item, out-Item, roll-out-Item}
use Rattle.flp_syntax.specs.View.{index_of, index_item_of, index_item_of_roll, tree_of, item_of, item_of_roll}

-- a token behind a space
wrote_token : (old new : List ℕ) (token : Token) → new ≡ old ++ (32 ∷ spelling token) → Wrote old (λ s. token ∷ s) new
unfolding rest_text
wrote_token old new token e = λ s. sym (append_assoc old (32 ∷ spelling token) (rest_text s)) ∙ ap (λ x. x ++ rest_text s) (sym e)

pub wrote_word : (r : Result (Unit {0}) AllocError) (old new word : List ℕ) (token : Token) → word ≡ spelling token → OnOk r (new ≡ old ++ (32 ∷ word)) → OnOk r (Wrote old (λ s. token ∷ s) new)
wrote_word (Ok x) old new word token e h = wrote_token old new token (h ∙ ap (λ w. old ++ (32 ∷ w)) e)
wrote_word (Err x) old new word token e h = tt

-- an item of a sum by its fields
pub index_item_of_out : (x : IdxItem) → index_item_of x ≡ ((out-IdxItem x).minus, index_of (out-IdxItem x).idx)
index_item_of_out x = ap index_item_of (sym (roll-out-IdxItem x)) ∙ index_item_of_roll (out-IdxItem x).minus (out-IdxItem x).idx

pub item_of_out : (x : Item) → item_of x ≡ ((out-Item x).minus, tree_of (out-Item x).expr)
item_of_out x = ap item_of (sym (roll-out-Item x)) ∙ item_of_roll (out-Item x).minus (out-Item x).expr

-- the first one that is left, by its view
pub first_left : {A B : Type 0} (view : A → B) (xs : List A) (i : ℕ) (x : A) (y : B) → i < length xs → x ≡ get_or xs i x → view x ≡ y → map view (drop i xs) ≡ y ∷ map view (drop (i + 1) xs)
first_left view xs i x y h e f = rw add-one (ap (map view) (drop-cons xs i x h) ∙ ap (λ z. view z ∷ map view (drop (suc i) xs)) (sym e) ∙ ap (λ z. z ∷ map view (drop (suc i) xs)) f)

-- what was written, and then what a last call writes
pub wrote_then : (r : Result (Unit {0}) AllocError) (old mid new : List ℕ) (f g : List Token → List Token) → Wrote old f mid → OnOk r (Wrote mid g new) → OnOk r (Wrote old (λ s. f (g s)) new)
wrote_then (Ok x) old mid new f g a b = λ s. a (g s) ∙ b s
wrote_then (Err x) old mid new f g a b = tt

-- a first token, and what was written behind it
pub wrote_all : (first : Mark) (old new : List ℕ) (put : List Token → List Token) → old ≡ mark_text first → Wrote old put new → WroteAll (λ s. Fixed first ∷ put s) new
wrote_all first old new put e w = λ s. ap (λ b. b ++ rest_text (put s)) (sym e) ∙ w s

-- and LF at the end
pub wrote_text : (put : List Token → List Token) (old new : List ℕ) → WroteAll put old → new ≡ old ++ (10 ∷ []) → new ≡ tokens_text (put [])
unfolding rest_text
wrote_text put old new w e = e ∙ sym (w [])
