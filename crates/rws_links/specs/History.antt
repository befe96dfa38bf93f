-- A session's history, as code keeps it.
use Rattle.rws_record.specs.Item.{Recording as Note}
use Rattle.rws_record.specs.Item.Recording.{Nothing, Accepts, Keeps}
use Rattle.rws_links.specs.declared.history.Recording.{Recording}
use Rattle.rws_links.specs.declared.history.Recording.TheVariants as recordings

-- what the end of a reply means for it
abbrev pub recorded : Note → Recording
recorded Nothing = recordings.Nothing
recorded Accepts = recordings.Accepts
recorded Keeps = recordings.Keeps
