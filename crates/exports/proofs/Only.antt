-- No second answer fits the contracts of the doors for other languages, no other places and no other content of the lent space.
use Rattle.theory.specs.Determined.{Determines, Settles, only}
use Rattle.exports.proofs.reambodkin_step.Reads as Step
use Rattle.exports.proofs.reambodkin_outlook.Reads as Outlook
use Rattle.exports.proofs.reambodkin_why.Reads as Why
use Rattle.exports.proofs.reambodkin_desk.Reads as Desk
use Rattle.exports.proofs.reambodkin_clerk_why.Reads as ClerkWhy
use Rattle.exports.proofs.reambodkin_clerk_card.Reads as ClerkCard
use Rattle.exports.proofs.reambodkin_clerk_outlook.Reads as ClerkOutlook
use Rattle.exports.proofs.reambodkin_clerk_check.Reads as ClerkCheck
use Rattle.exports.proofs.reambodkin_clerk_blank.Reads as ClerkBlank

pub step_number_only : Determines Step.Learnt
step_number_only κs a r q s t h g = only h.0 g.0

-- the places are the fifth parameter
pub step_places_only : Settles Step.Learnt (λ κs r s. s.1.1.1.1.0.now)
step_places_only κs a r q s t h g = only h.1.0 g.1.0

-- the lent space is the fourth parameter
pub step_space_only : Settles Step.Learnt (λ κs r s. s.1.1.1.0.now)
step_space_only κs a r q s t h g = only h.1.1 g.1.1

pub outlook_number_only : Determines Outlook.Learnt
outlook_number_only κs a r q s t h g = only h.0 g.0

pub outlook_places_only : Settles Outlook.Learnt (λ κs r s. s.1.1.1.1.0.now)
outlook_places_only κs a r q s t h g = only h.1.0 g.1.0

pub outlook_space_only : Settles Outlook.Learnt (λ κs r s. s.1.1.1.0.now)
outlook_space_only κs a r q s t h g = only h.1.1 g.1.1

pub why_number_only : Determines Why.Learnt
why_number_only κs a r q s t h g = only h.0 g.0

pub why_places_only : Settles Why.Learnt (λ κs r s. s.1.1.1.1.0.now)
why_places_only κs a r q s t h g = only h.1.0 g.1.0

pub why_space_only : Settles Why.Learnt (λ κs r s. s.1.1.1.0.now)
why_space_only κs a r q s t h g = only h.1.1 g.1.1

pub desk_count_only : Determines Desk.Learnt
desk_count_only κs a r q s t h g = only h.0 g.0

-- the lent space is the second parameter
pub desk_space_only : Settles Desk.Learnt (λ κs r s. s.1.0.now)
desk_space_only κs a r q s t h g = only h.1 g.1

pub clerk_why_count_only : Determines ClerkWhy.Learnt
clerk_why_count_only κs a r q s t h g = only h.0 g.0

pub clerk_why_space_only : Settles ClerkWhy.Learnt (λ κs r s. s.1.0.now)
clerk_why_space_only κs a r q s t h g = only h.1 g.1

pub clerk_card_count_only : Determines ClerkCard.Learnt
clerk_card_count_only κs a r q s t h g = only h.0 g.0

pub clerk_card_space_only : Settles ClerkCard.Learnt (λ κs r s. s.1.0.now)
clerk_card_space_only κs a r q s t h g = only h.1 g.1

pub clerk_outlook_count_only : Determines ClerkOutlook.Learnt
clerk_outlook_count_only κs a r q s t h g = only h.0 g.0

pub clerk_outlook_space_only : Settles ClerkOutlook.Learnt (λ κs r s. s.1.0.now)
clerk_outlook_space_only κs a r q s t h g = only h.1 g.1

pub clerk_check_count_only : Determines ClerkCheck.Learnt
clerk_check_count_only κs a r q s t h g = only h.0 g.0

pub clerk_check_space_only : Settles ClerkCheck.Learnt (λ κs r s. s.1.0.now)
clerk_check_space_only κs a r q s t h g = only h.1 g.1

pub clerk_blank_count_only : Determines ClerkBlank.Learnt
clerk_blank_count_only κs a r q s t h g = only h.0 g.0

pub clerk_blank_space_only : Settles ClerkBlank.Learnt (λ κs r s. s.1.0.now)
clerk_blank_space_only κs a r q s t h g = only h.1 g.1
