use Rattle.std.proofs.Common.{refl, codes}
use Rattle.markup.proofs.Plain.{chars-plain}
use Rattle.html_modes.proofs.table.Implied.text.Goals as goal

pub returns-in-Body : goal.returns-in-Body
returns-in-Body c = rw c.in-Body.is (chars-plain (codes "body") refl)

pub returns-in-Br : goal.returns-in-Br
returns-in-Br c = rw c.in-Br.is (chars-plain (codes "br") refl)

pub returns-in-Colgroup : goal.returns-in-Colgroup
returns-in-Colgroup c = rw c.in-Colgroup.is (chars-plain (codes "colgroup") refl)

pub returns-in-Head : goal.returns-in-Head
returns-in-Head c = rw c.in-Head.is (chars-plain (codes "head") refl)

pub returns-in-Img : goal.returns-in-Img
returns-in-Img c = rw c.in-Img.is (chars-plain (codes "img") refl)

pub returns-in-P : goal.returns-in-P
returns-in-P c = rw c.in-P.is (chars-plain (codes "p") refl)

pub returns-in-Tbody : goal.returns-in-Tbody
returns-in-Tbody c = rw c.in-Tbody.is (chars-plain (codes "tbody") refl)

pub returns-in-Tr : goal.returns-in-Tr
returns-in-Tr c = rw c.in-Tr.is (chars-plain (codes "tr") refl)
