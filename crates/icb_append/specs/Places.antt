-- What a job has at each place (ours).
use Rattle.std.specs.Prelude.{Bool, true, false, Option, Some, None, is_some}
use Rattle.icb_append.specs.declared.place.Place.{Place}
use Rattle.icb_append.specs.declared.place.Place.TheVariants as place
use Rattle.icb_append.specs.declared.work.Work.{Work}

-- there is work of a job that puts its files, reads the parent's list, puts its own or the version;
-- and where it puts the version there is a list
abbrev pub has_work : Place → Option Work → Bool
has_work place.Filing work = is_some work
has_work (place.Listing parent) work = is_some work
has_work place.Writing work = is_some work
has_work place.Committing (Some work) = is_some work.list
has_work place.Committing None = false
has_work other work = true
