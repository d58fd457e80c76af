-- Sheets that were read are well formed: names are good and differ, places lie in their tables, no section is over its limit.
use Rattle.std.specs.Prelude.{ℕ, zero, suc, ◌+◌, ◌≤◌, ◌<◌, ◌≡◌, Bool, not, List, [], ◌∷◌, ◌++◌, length}
use Rattle.std.proofs.Common.{sym, ◌∙◌, subst, true≢false, append-nil, append_assoc, ⊎_elim, arith}
use Rattle.std.proofs.lemmas.List.{map-append, length-map}
use Rattle.std.proofs.Math.Option.{Option, none, some}
use Rattle.std.proofs.lemmas.Bool.{not-true}
use Rattle.meaning.specs.Text.{In, text, is_in}
use Rattle.meaning.specs.Refusal.{LINE, NAME, COND}
use Rattle.meaning.specs.Limits.{field_limit, event_limit, status_limit, rule_limit}
use Rattle.meaning.specs.Reading.{demand, stands, one_of, line_end}
use Rattle.meaning.specs.Name.{Name}
use Rattle.meaning.specs.Condition.{Cond}
use Rattle.meaning.specs.ReadCondition.{condition}
use Rattle.meaning.specs.Sheet.{Heads, Sheet, Event, Status, Trigger, always, event, rise, fall, Rule, statuses, status_names, event_names, all_names, with_field, with_event, with_stage, with_mile, leaves_of}
use Rattle.meaning.specs.ReadSheet.{carried, under, status, signs, event_trigger, trigger, Begun, change, begun, plain_end, asked_end, ending, rule}
use Rattle.theory.specs.Lists.Members.{in_cases, in_is, Once, once_more}
use Rattle.theory.specs.Reading.Readers.{Ensures, give_ensures, refuse_ensures, choose_ensures, demand_ensures, bind_ensures, any_ensures}
use Rattle.theory.specs.Papers.Names.{Good, new_name_new, known_below}
use Rattle.theory.specs.Papers.Conditions.{LeavesIn, condition_in}

-- WHAT IT IS TO BE WELL FORMED

-- every member satisfies P
abbrev pub Each : {A : Type 0} → (A → Type 0) → List A → Type 0
Each {A} P xs = (x : A) → In x xs → P x

-- a parent or home among k stages, if any
abbrev pub UnderIn : ℕ → Option ℕ → Type 0
UnderIn k none = Unit {0}
UnderIn k (some p) = p < k

-- stages from place x on, each parent among those before its stage
abbrev pub Behind : ℕ → List Status → Type 0
Behind x [] = Unit {0}
Behind x (s ∷ ss) = UnderIn x s.under × Behind (suc x) ss

-- a stage or a mile, over k stages
pub record StatusIn (k : ℕ) (s : Status) : Type 0 where
  pub name : Good s.name
  pub under : UnderIn k s.under

-- an event that carries some of m fields, each once at most
pub record EventIn (m : ℕ) (e : Event) : Type 0 where
  pub name : Good e.name
  pub carries : Each (λ f. f < m) e.carries
  pub once : Once e.carries

-- a trigger that names one of n statuses or one of v events
abbrev pub TriggerIn : ℕ → ℕ → Trigger → Type 0
TriggerIn n v always = Unit {0}
TriggerIn n v (event e) = e < v
TriggerIn n v (rise y) = y < n
TriggerIn n v (fall y) = y < n

-- a rule over n statuses, m fields and v events
pub record RuleIn (n m v : ℕ) (r : Rule) : Type 0 where
  pub status : r.status < n
  pub trigger : TriggerIn n v r.trigger
  pub leaves : LeavesIn n m (leaves_of r.condition)

-- what stands above the rules, well formed
pub record WellHeads (hd : Heads) : Type 0 where
  pub model : Good hd.model
  pub fields : Each Good hd.fields
  pub events : Each (EventIn (length hd.fields)) hd.events
  pub stages : Each (StatusIn (length hd.stages)) hd.stages
  pub miles : Each (StatusIn (length hd.stages)) hd.miles
  pub parents : Behind 0 hd.stages
  -- "Names of fields, events, stages and miles all differ"
  pub names : Once (all_names hd)
  pub fields_few : length hd.fields ≤ field_limit
  pub events_few : length hd.events ≤ event_limit
  pub statuses_few : length (statuses hd) ≤ status_limit

-- sections that are not yet read
abbrev pub NoMiles : Heads → Type 0
NoMiles hd = hd.miles ≡ []

abbrev pub NoStages : Heads → Type 0
NoStages hd = (hd.stages ≡ []) × (hd.miles ≡ [])

abbrev pub NoEvents : Heads → Type 0
NoEvents hd = (hd.events ≡ []) × (hd.stages ≡ []) × (hd.miles ≡ [])

abbrev pub NoFields : Heads → Type 0
NoFields hd = (hd.fields ≡ []) × (hd.events ≡ []) × (hd.stages ≡ []) × (hd.miles ≡ [])

-- a sheet that is well formed
pub record Well (sh : Sheet) : Type 0 where
  pub heads : WellHeads sh.heads
  pub rules : Each (RuleIn (length (statuses sh.heads)) (length sh.heads.fields) (length sh.heads.events)) sh.rules
  pub rules_few : length sh.rules ≤ rule_limit

-- ONE ROW MORE

-- of a list with one more
pub each_more : {A : Type 0} (P : A → Type 0) (so : List A) (a : A) → Each P so → P a → Each P (so ++ (a ∷ []))
each_more P so a h g x m = ⊎_elim (h x) (λ i. ⊎_elim (λ q. subst P (sym q) g) absurd i) (in_cases x so (a ∷ []) m)

-- the names of a sheet with one line more, in the section that is read
pub names_field : (hd : Heads) (f : Name) → NoEvents hd → all_names (with_field hd f) ≡ all_names hd ++ (f ∷ [])
unfolding all_names event_names status_names statuses
names_field hd f late = rw (late.0, late.1, late.2) (simp append-nil)

pub names_event : (hd : Heads) (e : Event) → NoStages hd → all_names (with_event hd e) ≡ all_names hd ++ (e.name ∷ [])
unfolding all_names event_names status_names statuses
names_event hd e late = rw (late.0, late.1) (simp (map-append, append-nil, append_assoc))

pub names_stage : (hd : Heads) (x : Status) → NoMiles hd → all_names (with_stage hd x) ≡ all_names hd ++ (x.name ∷ [])
unfolding all_names status_names statuses
names_stage hd x late = rw late (simp (append-nil, map-append, append_assoc))

pub names_mile : (hd : Heads) (x : Status) → all_names (with_mile hd x) ≡ all_names hd ++ (x.name ∷ [])
unfolding all_names status_names statuses
names_mile hd x = simp (map-append, append_assoc)

-- more stages
pub under_up : (j k : ℕ) (u : Option ℕ) → j ≤ k → UnderIn j u → UnderIn k u
under_up j k none h g = tt
under_up j k (some p) h g = omega arith

-- a status over more stages
pub status_up : (j k : ℕ) (s : Status) → j ≤ k → StatusIn j s → StatusIn k s
status_up j k s h g = record { name = g.name; under = under_up j k s.under h g.under }

-- a stage more, with its parent among those before it
pub behind_more : (x n : ℕ) (ss : List Status) (s : Status) → n ≡ x + length ss → Behind x ss → UnderIn n s.under → Behind x (ss ++ (s ∷ []))
behind_more x n [] s e h g = let z : n ≡ x = omega arith in (rw z at g, tt)
behind_more x n (t ∷ ss) s e h g = (h.0, behind_more (suc x) n ss s (omega arith) h.1 g)

-- ROWS

-- the fields that an event carries
pub carried_in_lem : (fields : List Name) (m : ℕ) (so : List ℕ) → Each (λ f. f < length fields) so → Once so
    → Ensures (carried fields m so) (λ fs. Each (λ f. f < length fields) fs × Once fs)
unfolding carried
carried_in_lem fields zero so h d = refuse_ensures
carried_in_lem fields (suc m) so h d =
    any_ensures (stands (text " ")) λ more.
    choose_ensures more
    (bind_ensures (known_below fields) λ f b.
    bind_ensures (demand_ensures NAME (not (is_in f so))) λ _ g.
    carried_in_lem fields m (so ++ (f ∷ [])) (each_more (λ f. f < length fields) so f h b)
    (once_more so f d (λ i. true≢false (sym (in_is f so i) ∙ not-true (is_in f so) g))))
    (any_ensures (line_end LINE) λ _. give_ensures (h, d))

-- what ends a status's line names one of the stages, or none
pub under_in : (stages : List Name) → Ensures (under stages) (UnderIn (length stages))
unfolding under
under_in stages =
    any_ensures (stands (text " ")) λ more.
    bind_ensures (choose_ensures {P = UnderIn (length stages)} more (bind_ensures (known_below stages) λ i h. give_ensures h) (give_ensures tt)) λ p h.
    any_ensures (line_end LINE) λ _.
    give_ensures h

-- a status line, with a new name
pub status_in_lem : (hd : Heads) → Ensures (status hd) (λ s. StatusIn (length hd.stages) s × (In s.name (all_names hd) → ⊥))
unfolding status status_names
status_in_lem hd =
    bind_ensures (new_name_new (all_names hd)) λ n g.
    bind_ensures (under_in (status_names hd.stages)) λ p u.
    give_ensures (record { name = g.0; under = rw (length-map hd.stages (λ (s : Status). s.name)) at u }, g.1)

-- THE RULES

-- a rule's status and trigger, in a sheet with n statuses and v events
pub record BegunIn (n v : ℕ) (b : Begun) : Type 0 where
  pub status : b.status < n
  pub trigger : TriggerIn n v b.trigger

module _ (events sts : List Name) where
  -- a trigger
  trigger_in : Ensures (trigger events sts) (TriggerIn (length sts) (length events))
  unfolding trigger event_trigger
  trigger_in =
      any_ensures (stands (text "+")) λ rises.
      choose_ensures rises (bind_ensures (known_below sts) λ x h. give_ensures h) (any_ensures (stands (text "-")) λ falls.
      choose_ensures falls (bind_ensures (known_below sts) λ x h. give_ensures h) (bind_ensures (known_below events) λ e h. give_ensures h))

  change_in : Ensures (change sts) (λ b. b.status < length sts)
  unfolding change
  change_in =
      any_ensures (one_of LINE signs) λ g.
      bind_ensures (known_below sts) λ x h.
      give_ensures h

  begun_in : Ensures (begun events sts) (BegunIn (length sts) (length events))
  unfolding begun
  begun_in =
      bind_ensures change_in λ b h.
      any_ensures (stands (text " on ")) λ on.
      bind_ensures (choose_ensures {P = TriggerIn (length sts) (length events)} on trigger_in (give_ensures tt)) λ t ht.
      give_ensures (record { status = h; trigger = ht })

-- what holds of no condition, and of one that is read, holds of what ends a rule's line
pub ending_ensures : (P : Option Cond → Type 0) (fields sts : List Name) (on : Bool) (l : ℕ) → P none → Ensures (condition sts fields l) (λ c. P (some c))
    → Ensures (ending fields sts on l) P
unfolding ending asked_end plain_end
ending_ensures P fields sts on l h g =
    any_ensures (stands (text " if ")) λ asks.
    choose_ensures asks
    (bind_ensures g λ c p. any_ensures (line_end COND) λ _. give_ensures p)
    (any_ensures (demand LINE on) λ _. any_ensures (line_end LINE) λ _. give_ensures h)

-- a rule line
pub rule_in : (fields events sts : List Name) (l : ℕ) → Ensures (rule fields events sts l) (RuleIn (length sts) (length fields) (length events))
unfolding rule leaves_of
rule_in fields events sts l =
    bind_ensures (begun_in events sts) λ b h.
    bind_ensures (ending_ensures (λ c. LeavesIn (length sts) (length fields) (leaves_of c)) fields sts b.on l (λ x i. absurd i) (condition_in sts fields l))
    λ c g.
    give_ensures (record { status = h.status; trigger = h.trigger; leaves = g })
