-- Every event line that is read is the text of what was read.
use Rattle.std.specs.Prelude.{ℕ, suc, ◌≡◌, refl, Bool, true, false, List, [], ◌∷◌, ◌++◌, get_or}
use Rattle.std.proofs.Common.{◌∙◌, ap, append-nil, arith}
use Rattle.std.proofs.Math.Option.{Option, none, some}
use Rattle.meaning.specs.Text.{text, same, find, later, joined}
use Rattle.meaning.specs.Refusal.{LINE}
use Rattle.meaning.specs.Limits.{event_bytes}
use Rattle.meaning.specs.Reading.{each}
use Rattle.meaning.specs.Name.{Name, known, placed}
use Rattle.meaning.specs.Sheet.{Heads, event_names}
use Rattle.meaning.specs.Card.{Put, Happening, carried_by, spaced, put, happening, read_event}
use Rattle.theory.specs.Reading.Readers.{Yields, got_yields, bind_yields, any_yields, Holds, paper_read}
use Rattle.theory.specs.Papers.Names.{same_equal}
use Rattle.theory.specs.Reading.Spelling.{Spells, give_spells, refuse_spells, bind_spells, behind_spells, due_spells, closed_spells, closed_ends, name_spells}
use Rattle.theory.specs.Writing.CardText.{field_spells}

-- THE TEXT OF AN EVENT LINE

-- "a space and `FIELD=` and a number or `?`"
unfoldable pub put_text : Heads → Put → List ℕ
put_text hd p = text " " ++ (get_or hd.fields p.field [] ++ text "=" ++ p.entry.shown)

-- "the event's name, then for each field it carries, .., then LF"
unfoldable pub event_text : Heads → Happening → List ℕ
event_text hd h = get_or (event_names hd.events) h.event [] ++ joined (put_text hd) h.puts ++ text "\n"

-- THE TEXT OF EACH PIECE

-- a name that is found stands at its place
find_name : (w : List ℕ) (ns : List Name) (i : ℕ) → find w ns ≡ some i → w ≡ get_or ns i []
unfolding find
find_name w [] i e =
    let z : ◌≡◌ {A = ℕ} 0 1 = cc in
    absurd (omega arith)
find_name w (k ∷ ks) i e = go (same w k) refl (find w ks) i e (find_name w ks)
  where
    go : (b : Bool) → same w k ≡ b → (o : Option ℕ) (i : ℕ) → elim b [ true ↦ some 0 | false ↦ later o ] ≡ some i
        → ((j : ℕ) → o ≡ some j → w ≡ get_or ks j []) → w ≡ get_or (k ∷ ks) i []
    go true q o i e ih =
        let z : 0 ≡ i = cc in
        rw (← z) (same_equal w k q)
    go false q none i e ih =
        let z : ◌≡◌ {A = ℕ} 0 1 = cc in
        absurd (omega arith)
    go false q (some j) i e ih =
        let z : suc j ≡ i = cc in
        rw (← z) (ih j refl)

-- a name of the list
pub known_spells : (ns : List Name) → Spells [] (known ns) (λ i. get_or ns i [])
unfolding known
known_spells ns = bind_spells name_spells λ w. go w (find w ns) refl
  where
    go : (w : List ℕ) (o : Option ℕ) → find w ns ≡ o → Spells w (placed o) (λ i. get_or ns i [])
    go w none e = refuse_spells
    go w (some i) e = give_spells (find_name w ns i e)

-- a field with its value, behind a space
pub spaced_spells : (n : Name) → Spells [] (spaced n) (λ e. text " " ++ (n ++ text "=" ++ e.shown))
unfolding spaced
spaced_spells n =
    bind_spells (due_spells LINE (text " ")) λ x.
    behind_spells (text " ") (field_spells n)

put_spells : (hd : Heads) (f : ℕ) → Spells [] (put hd f) (put_text hd)
unfolding put put_text
put_spells hd f =
    bind_spells (spaced_spells (get_or hd.fields f [])) λ e.
    give_spells refl

-- each put, in the order in which the event carries them
puts_spells : (hd : Heads) (fs : List ℕ) → Spells [] (each (put hd) fs) (joined (put_text hd))
unfolding each joined
puts_spells hd [] = give_spells refl
puts_spells hd (f ∷ fs) =
    bind_spells (put_spells hd f) λ p.
    bind_spells (puts_spells hd fs) λ ps.
    give_spells refl

-- all of it
happening_spells : (hd : Heads) → Spells [] (happening hd) (event_text hd)
unfolding happening event_text
happening_spells hd =
    bind_spells (known_spells (event_names hd.events)) λ i.
    bind_spells (puts_spells hd (carried_by hd i)) λ ps.
    bind_spells closed_spells λ x.
    give_spells refl

-- nothing stands behind it
happening_ends : (hd : Heads) (l : ℕ) (s : List ℕ) → Yields (happening hd l s) (λ h t. t ≡ [])
unfolding happening
happening_ends hd l s =
    any_yields (known (event_names hd.events) l s) λ i j a.
    any_yields (each (put hd) (carried_by hd i) j a) λ ps k b.
    bind_yields (closed_ends k b) λ _ n t e.
    got_yields e

-- the event line that is taken is the text of what was taken from it
pub happening_text : (hd : Heads) (s : List ℕ) → Holds (read_event hd s) (λ h. s ≡ event_text hd h)
unfolding read_event
happening_text hd s h e =
    let (f, (k, t, q)) = paper_read 3 event_bytes (happening hd) s h e in
    ((happening_spells hd).reads 1 s).of h k t q ∙ ap (λ z. event_text hd h ++ z) ((happening_ends hd 1 s).of h k t q) ∙ append-nil (event_text hd h)
