-- Where something begins or ends on a link: its login, and the replies to what it is sent.
use Rattle.std.specs.Prelude.{ℕ, ◌+◌, Bool, true, false, List, [], ◌∷◌, ◌==◌, if◌then◌else◌}
use Rattle.rws_reply.specs.declared.kind.Progress.TheVariants.{Whole as Ends}
use Rattle.rws_link.specs.declared.step.LinkStep.{LinkStep}
use Rattle.rws_link.specs.declared.step.LinkStep.TheVariants as steps
use Rattle.rws_record.specs.Item.{Item}
use Rattle.rws_record.specs.Item.Item.{Comes, Puts}
use Rattle.rws_record.specs.Item.Put.{Opens, Sends}

-- the login, or a reply, came to its end
abbrev pub is_whole : LinkStep → Bool
is_whole steps.LoggedIn = true
is_whole (steps.Part payload role (Ends outcome) next behind) = true
is_whole _ = false

-- the link is opened or logged in, or is sent something, or a reply on it is whole
abbrev pub changes_on : ℕ → Item → Bool
changes_on link (Puts (Opens opened server login)) = opened == link
changes_on link (Puts (Sends to purpose)) = to == link
changes_on link (Comes from said) = if from == link then is_whole said else false
changes_on link _ = false

-- how often that was so
abbrev pub changes : ℕ → List Item → ℕ
changes link [] = 0
changes link (item ∷ past) = if changes_on link item then changes link past + 1 else changes link past
