-- No second answer fits: each public function's contract determines what it answers, and what a table lent to be written is then.
use Rattle.theory.specs.Determined.{Determines, Settles, only}
use Rattle.name.proofs.name_piece.Reads as NamePiece
use Rattle.name.proofs.no_name.Reads as NoName
use Rattle.name.proofs.no_names.Reads as NoNames
use Rattle.name.proofs.count.Reads as Count
use Rattle.name.proofs.at.Reads as At
use Rattle.name.proofs.put.Reads as Put
use Rattle.name.proofs.part.Reads as Part
use Rattle.name.proofs.find.Reads as Find
use Rattle.name.proofs.known_name.Reads as KnownName
use Rattle.name.proofs.new_name.Reads as NewName
use Rattle.name.proofs.due_name.Reads as DueName
use Rattle.name.proofs.name_fault.Reads as NameFault
use Rattle.name.proofs.known_fault.Reads as KnownFault
use Rattle.name.proofs.name_len.Reads as NameLen
use Rattle.name.proofs.spell.Reads as Spell

pub name_piece_only : Determines NamePiece.Learnt
name_piece_only κs a r q s t = only

pub no_name_only : Determines NoName.Learnt
no_name_only κs a r q s t = only

pub no_names_only : Determines NoNames.Learnt
no_names_only κs a r q s t = only

pub count_only : Determines Count.Learnt
count_only κs a r q s t = only

pub at_only : Determines At.Learnt
at_only κs a r q s t = only

-- the table is the first parameter
pub put_table_only : Settles Put.Learnt (λ κs r s. s.0.now)
put_table_only κs a r q s t = only

-- what the part of the slice holds
pub part_only : Settles Part.Learnt (λ κs r s. r.now)
part_only κs a r q s t = only

pub find_only : Determines Find.Learnt
find_only κs a r q s t = only

pub known_name_only : Determines KnownName.Learnt
known_name_only κs a r q s t = only

pub new_name_only : Determines NewName.Learnt
new_name_only κs a r q s t = only

pub due_name_only : Determines DueName.Learnt
due_name_only κs a r q s t = only

-- whatever a refusal is told by
pub name_fault_only : (R : _) (L : _) (G : _) (D : _) → Determines (NameFault.Learnt R L G D)
name_fault_only R L G D κs a r q s t = only

pub known_fault_only : (R : _) (L : _) (G : _) (D : _) → Determines (KnownFault.Learnt R L G D)
known_fault_only R L G D κs a r q s t = only

pub name_len_only : Determines NameLen.Learnt
name_len_only κs a r q s t h g = only h.0 g.0

pub spell_only : Determines Spell.Learnt
spell_only κs a r q s t h g = only h.next g.next

-- the lent space is the first parameter
pub spell_space_only : Settles Spell.Learnt (λ κs r s. s.0.now)
spell_space_only κs a r q s t h g = only h.space g.space
