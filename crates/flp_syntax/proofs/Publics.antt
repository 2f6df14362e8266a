-- What is shared and what is public in a list of parts.
use Rattle.std.proofs.Common.{◌≡◌, Bool, true, false, ◌||◌, sym, ap, ◌∙◌}
use Rattle.std.proofs.lemmas.Bool.{or_parts}
use Rattle.flp_syntax.specs.Tree.{Tree, Items, item_on, Trees, tree_on}
use Rattle.flp_syntax.specs.Sorts.{is_shared, has_shared_item, has_shared}

-- a sum with a shared item, and one whose first item is public
pub shared_item : (minus : Bool) (x : Tree) (more : Items) → is_shared x ≡ true → has_shared_item (item_on minus x more) ≡ true
shared_item minus x more h = ap (λ b. b || has_shared_item more) h

pub public_item : (minus : Bool) (x : Tree) (more : Items) → is_shared x ≡ false → has_shared_item (item_on minus x more) ≡ has_shared_item more
public_item minus x more h = ap (λ b. b || has_shared_item more) h

-- the parts of a list without a shared one
pub first_public : (x : Tree) (more : Trees) → has_shared (tree_on x more) ≡ false → is_shared x ≡ false
first_public x more h = (or_parts (is_shared x) (has_shared more) h).0

pub rest_public : (x : Tree) (more : Trees) → has_shared (tree_on x more) ≡ false → has_shared more ≡ false
rest_public x more h = (or_parts (is_shared x) (has_shared more) h).1

pub first_item_public : (minus : Bool) (x : Tree) (more : Items) → has_shared_item (item_on minus x more) ≡ false → is_shared x ≡ false
first_item_public minus x more h = (or_parts (is_shared x) (has_shared_item more) h).0

pub rest_items_public : (minus : Bool) (x : Tree) (more : Items) → has_shared_item (item_on minus x more) ≡ false → has_shared_item more ≡ false
rest_items_public minus x more h = (or_parts (is_shared x) (has_shared_item more) h).1

-- behind a public factor a shared one is left
pub rest_shared : (x : Tree) (more : Trees) → is_shared x ≡ false → has_shared (tree_on x more) ≡ true → has_shared more ≡ true
rest_shared x more public h = sym (ap (λ b. b || has_shared more) public) ∙ h
