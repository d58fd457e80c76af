-- What a request returns, for what the meaning says.
use Rattle.std.specs.Prelude.{ℕ}
use Rattle.meaning.specs.Doors as D
use Rattle.reply.specs.declared.Reply.{Reply}

-- the numbers of a reply
abbrev pub as_reply : D.Reply → Reply
as_reply r = record { number = r.number; paper = r.paper; line = r.line; count = r.count; tasks = r.tasks }

-- a refusal: "its other numbers are 0"
abbrev pub refused_reply : ℕ → ℕ → ℕ → Reply
refused_reply n p l = record { number = n; paper = p; line = l; count = 0; tasks = 0 }
