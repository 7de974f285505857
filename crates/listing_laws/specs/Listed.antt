-- The listing of a script that a text means.
use Rattle.std.specs.Prelude.{◌≡◌, ℕ, List, ◌++◌, map, All}
use Rattle.set_model.specs.declared.script.Script.{Script}
use Rattle.set_model.specs.SetState.{purged}
use Rattle.set_model.specs.Control.{Mode, history}
use Rattle.set_report.specs.Remarks.{remarks_text}
use Rattle.set_report.specs.ListText.{list_text}
use Rattle.set_script.specs.ScriptText.{IsScriptText}
use Rattle.listing_laws.specs.Relisted.{ReadsBack, before_commit}
use Rattle.listing_laws.specs.Listing.{by_table, AreListable, IsListing}

-- What the law says: each set that `list` prints of a script reads back, at the script's last moment.
abbrev pub ListingReadsBack : Type 0
ListingReadsBack = (mode : Mode) (text : List ℕ) (s : Script) → IsScriptText text s → All (ReadsBack s.last) (history mode s.schema s.sections).last.sets

-- What the law says: a listing can say the sets that `list` prints of a script, at the script's last moment.
abbrev pub ListingIsSayable : Type 0
ListingIsSayable = (mode : Mode) (text : List ℕ) (s : Script) → IsScriptText text s → AreListable s.last s.schema (history mode s.schema s.sections).last.sets

-- What the law says: the text that `list` prints of a script is in the grammar of scripts, and means the script of this
-- listing. Run in either mode, that script gives the listed sets, as its commit leaves them.
abbrev pub ListingIsScript : Type 0
ListingIsScript = (mode again : Mode) (text : List ℕ) (s : Script) → IsScriptText text s →
    let c = history mode s.schema s.sections in
    let sets = by_table s.schema c.last.sets in
    (script : Script) × IsScriptText (remarks_text s.schema c.events ++ list_text s.schema c.last.sets s.last) script
    × IsListing s.last sets script
    × ((history again script.schema script.sections).last.sets ≡ map (λ p. purged (before_commit p.1 s.last) 0) sets)
