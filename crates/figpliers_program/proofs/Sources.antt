-- Sources that were not read.
use Rattle.std.proofs.Common.{List, Option, ℕ}
use Rattle.html_normal_program.specs.Streams.{IsOpened}
use Rattle.figpliers_program.specs.Reading.{IsFileUnread, IsUnread}
use Rattle.figpliers_program.specs.declared.faults.PageFault.{PageFault}
use Rattle.figpliers_program.specs.declared.faults.PageFault.TheVariants.{Memory, NotUtf8, Open, Read, Write}

-- a file that was opened
pub file-unread : (stated : Option (Option (List ℕ))) (left : Option (List ℕ)) (fault : PageFault) → IsOpened stated left → IsUnread fault
    → IsFileUnread stated fault
file-unread stated left (Open why) opened unread = absurd unread
file-unread stated left (NotUtf8 at) opened unread = absurd unread
file-unread stated left Read opened unread = (left, opened, unread)
file-unread stated left Memory opened unread = (left, opened, unread)
file-unread stated left Write opened unread = absurd unread
