-- Walks over events that stand behind one another.
use Rattle.std.proofs.Common.{◌≡◌, ℕ, ◌+◌, ◌<◌, ◌≤◌, List, [], ◌∷◌, ◌++◌, Option, None, Some, Result, Ok, Err, IsErr, IsErrAnd, refl, sym, ap, subst, ◌∙◌}
use Rattle.std.specs.List.{flat_map}
use Rattle.flp_syntax.specs.Scope.{turns}
use Rattle.flp_syntax.proofs.Turns.{turns_none, turns_next}
use Rattle.flp_syntax.specs.declared.fault.LangFault.{LangFault}
use Rattle.flp_syntax.specs.declared.fault.LangFault.TheVariants.{Memory}
use Rattle.flp_check.specs.Events.{Event}
use Rattle.flp_check.specs.Counts.{Counts, meet, go_on, walk, Reaches, Stops, Walks}
use Rattle.flp_check.specs.Verdict.{unless}

go_on-go_on : {A B C : Type 0} (r : Result A LangFault) (f : A → Result B LangFault) (g : B → Result C LangFault) → go_on (go_on r f) g ≡ go_on r (λ a. go_on (f a) g)
go_on-go_on (Ok a) f g = refl
go_on-go_on (Err fault) f g = refl

go_on-same : {A B : Type 0} (r : Result A LangFault) (f g : A → Result B LangFault) → ((a : A) → f a ≡ g a) → go_on r f ≡ go_on r g
go_on-same (Ok a) f g h = h a
go_on-same (Err fault) f g h = refl

pub walk-append : (xs ys : List Event) (a : Counts) → walk a (xs ++ ys) ≡ go_on (walk a xs) (λ b. walk b ys)
walk-append [] ys a = refl
walk-append (x ∷ xs) ys a =
    go_on-same (meet a x) (λ b. walk b (xs ++ ys)) (λ b. go_on (walk b xs) (λ c. walk c ys)) (λ b. walk-append xs ys b)
    ∙ sym (go_on-go_on (meet a x) (λ b. walk b xs) (λ c. walk c ys))

-- no event changes nothing
pub reaches_none : (a : Counts) → Reaches a [] a
reaches_none a = record { is = refl }

pub reaches_more : {a b c : Counts} {xs ys : List Event} → Reaches a xs b → Reaches b ys c → Reaches a (xs ++ ys) c
reaches_more {a} {b} {c} {xs} {ys} front back = record { is = walk-append xs ys a ∙ ap (λ r. go_on r (λ d. walk d ys)) front.is ∙ back.is }

pub stops_front : {a : Counts} {xs : List Event} (ys : List Event) {fault : LangFault} → Stops a xs fault → Stops a (xs ++ ys) fault
stops_front {a} {xs} ys front = record { is = λ h. walk-append xs ys a ∙ ap (λ r. go_on r (λ d. walk d ys)) (front.is h) }

pub stops_back : {a b : Counts} {xs ys : List Event} {fault : LangFault} → Reaches a xs b → Stops b ys fault → Stops a (xs ++ ys) fault
stops_back {a} {b} {xs} {ys} front back = record { is = λ h. walk-append xs ys a ∙ ap (λ r. go_on r (λ d. walk d ys)) front.is ∙ back.is h }

-- the answer of what stands behind is that of the whole
pub walks_more : {A : Type 0} {a b : Counts} {xs : List Event} (ys : List Event) (c : Counts) (r : Result A LangFault) → Reaches a xs b → Walks b ys r c → Walks a (xs ++ ys) r c
walks_more ys c (Ok x) front back = reaches_more front back
walks_more ys c (Err fault) front back = stops_back front back

-- a fault that is handed on
pub handed_on : {A : Type 0} {a : Counts} {xs : List Event} {fault : LangFault} (c : Counts) (r : Result A LangFault) → IsErr r × IsErrAnd r (λ e. e ≡ fault) → Stops a xs fault → Walks a xs r c
handed_on c (Ok x) h stops = absurd h.1
handed_on {A} {a} {xs} c (Err e) h stops = subst (λ f. Stops a xs f) (sym h.1) stops

-- want of memory says nothing
pub no_memory : {a : Counts} {xs : List Event} (fault : LangFault) → fault ≡ Memory → Stops a xs fault
no_memory fault e = record { is = λ h. absurd (h e) }

-- a walk from the start over all events is one from here over those that are left
pub record Leads (here : Counts) (left : List Event) (start : Counts) (all : List Event) : Type 0 where
  pub is : walk start all ≡ walk here left

pub leads_reach : {here start after : Counts} {left all : List Event} → Leads here left start all → Reaches here left after → Reaches start all after
leads_reach leads reaches = record { is = leads.is ∙ reaches.is }

pub leads_stop : {here start : Counts} {left all : List Event} {fault : LangFault} → Leads here left start all → Stops here left fault → Stops start all fault
leads_stop leads stops = record { is = λ h. leads.is ∙ stops.is h }

pub leads_on : {here next start : Counts} {xs left all : List Event} → Leads here (xs ++ left) start all → Reaches here xs next → Leads next left start all
leads_on {here} {next} {start} {xs} {left} leads reaches = record { is = leads.is ∙ walk-append xs left here ∙ ap (λ r. go_on r (λ d. walk d left)) reaches.is }

pub leads_same : {here start : Counts} {left left' all : List Event} → left ≡ left' → Leads here left start all → Leads here left' start all
leads_same {here} {start} {left} {left'} {all} e leads = record { is = leads.is ∙ ap (walk here) e }

-- a turn of a loop, and the end of the turns
pub leads_turn : (f : ℕ → List Event) (i to : ℕ) {here next start : Counts} {all : List Event} → i < to → Leads here (flat_map f (turns i to)) start all → Reaches here (f i) next → Leads next (flat_map f (turns (i + 1) to)) start all
leads_turn f i to h leads reaches = leads_on (leads_same (ap (flat_map f) (turns_next i to h)) leads) reaches

pub leads_turn_stop : (f : ℕ → List Event) (i to : ℕ) {here start : Counts} {all : List Event} {fault : LangFault} → i < to → Leads here (flat_map f (turns i to)) start all → Stops here (f i) fault → Stops start all fault
leads_turn_stop f i to h leads stops = leads_stop (leads_same (ap (flat_map f) (turns_next i to h)) leads) (stops_front _ stops)

pub leads_turns : (f : ℕ → List Event) (i to : ℕ) {here start : Counts} {all : List Event} → to ≤ i → Leads here (flat_map f (turns i to)) start all → Reaches start all here
leads_turns f i to h leads = leads_reach (leads_same (ap (flat_map f) (turns_none i to h)) leads) (reaches_none _)

-- no fault came before an answer
pub unless_ok : {A : Type 0} (o : Option LangFault) (r : Result A LangFault) (a : A) → unless o r ≡ Ok a → (o ≡ None) × (r ≡ Ok a)
unless_ok None r a h = (refl, h)
unless_ok (Some fault) r a h = cc

pub go_on_ok : {A B : Type 0} (r : Result A LangFault) (f : A → Result B LangFault) (b : B) → go_on r f ≡ Ok b → (a : A) × (r ≡ Ok a) × (f a ≡ Ok b)
go_on_ok (Ok a) f b h = (a, refl, h)
go_on_ok (Err fault) f b h = cc

-- what holds before a walk and is kept by each event holds after it
pub walk_keeps : (P : Counts → Type 0) → ((a : Counts) (e : Event) (b : Counts) → P a → meet a e ≡ Ok b → P b) → (es : List Event) (a b : Counts) → P a → walk a es ≡ Ok b → P b
walk_keeps P step [] a b p h = let e : a ≡ b = cc in subst P e p
walk_keeps P step (x ∷ xs) a b p h = let m = go_on_ok (meet a x) (λ c. walk c xs) b h in walk_keeps P step xs m.0 b (step a x m.0 p m.1) m.2
