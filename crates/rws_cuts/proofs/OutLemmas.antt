-- What is given out for an item is the same on any record.
use Rattle.std.proofs.Common.{◌≡◌, ℕ, List, ◌∷◌, ◌++◌, refl, ap, ◌∙◌}
use Rattle.rws_record.specs.Item.{Item, Put}
use Rattle.rws_record.specs.Item.Item.{Accepted, TurnsAway, Began, ClientBytes, LinkReady, LinkBytes, ClientGone, LinkLost, Ticks, Routed, Comes, Connects, Takes, Floods, Puts, Starves}
use Rattle.rws_record.specs.Item.Put.{Hands, Tells, Records, Routes, Opens, LogsInto, Sends, Forgets, Drops, Closes}
use Rattle.rws_record.specs.declared.output.Output.{Output}
use Rattle.rws_record.specs.Outputs.{outputs_of, outs_of}

put_gives : (session : ℕ) (put : Put) (one other : List Item) → outs_of session (Puts put) one ≡ outs_of session (Puts put) other
put_gives session (Hands packets) one other = refl
put_gives session (Tells number tell) one other = refl
put_gives session (Records server gtid) one other = refl
put_gives session Routes one other = refl
put_gives session (Opens link server login) one other = refl
put_gives session (LogsInto link packets) one other = refl
put_gives session (Sends link purpose) one other = refl
put_gives session (Forgets link id) one other = refl
put_gives session (Drops link cause) one other = refl
put_gives session (Closes reason) one other = refl

gives : (session : ℕ) (item : Item) (one other : List Item) → outs_of session item one ≡ outs_of session item other
gives session (Accepted number scramble reading) one other = refl
gives session (TurnsAway told) one other = refl
gives session (Began link server reading) one other = refl
gives session (ClientBytes bytes) one other = refl
gives session (LinkReady link) one other = refl
gives session (LinkBytes link bytes) one other = refl
gives session ClientGone one other = refl
gives session (LinkLost link) one other = refl
gives session (Ticks reading) one other = refl
gives session (Routed words loads next found) one other = refl
gives session (Comes link said) one other = refl
gives session (Connects said) one other = refl
gives session (Takes judged number) one other = refl
gives session (Floods held) one other = refl
gives session (Puts put) one other = put_gives session put one other
gives session (Starves made number) one other = refl

pub gave_more : (session : ℕ) (item : Item) (one other : List Item) → outputs_of session one ≡ outputs_of session other
    → outputs_of session (item ∷ one) ≡ outputs_of session (item ∷ other)
gave_more session item one other e =
    ap (λ (before : List Output). before ++ outs_of session item one) e
    ∙ ap (λ (now : List Output). outputs_of session other ++ now) (gives session item one other)
