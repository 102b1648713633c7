-- What a page shows.
use Rattle.range_scan.specs.Ranges.{Shown}
use Rattle.range_scan.specs.declared.page.Page.{Page}

abbrev pub shown : Page → Shown
shown page = record { pairs = page.pairs.items; more = page.more }
