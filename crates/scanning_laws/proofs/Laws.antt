-- Laws of a scan.
use Rattle.std.proofs.Common.{[], IsTrue}
use Rattle.scanning.specs.Parts.{Around, Part}
use Rattle.scanning_laws.specs.Laws.{LocalFactsPrintTheScan}
use Rattle.scanning_laws.specs.Valued.{Says, Before}
use Rattle.scanning_laws.proofs.Derived.{derived}
use Rattle.scanning_laws.proofs.Knowing.{scan_printed}

pub local_facts : LocalFactsPrintTheScan
local_facts k table i good inside t ss all is =
    let Good : Around → Part → Type 0 = λ a p. IsTrue (good a p) in
    let d = derived k table Good inside [] t ss all is in
    (d, λ plan m c f. scan_printed k table (Says i table) (Before i table) Good plan m c f d)
