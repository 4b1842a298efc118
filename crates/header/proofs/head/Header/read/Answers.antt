use Rattle.std.proofs.Common.{arith, ap, sym, ◌∙◌, drop}
use Rattle.codes.proofs.Exits.{exit_same}
use Rattle.header.specs.Reading.{HeaderRead, blank, numbers_fault}
use Rattle.header.specs.Fields.{numbers_of}
use Rattle.header.proofs.ReadPages.{Right, right, header_read, fault_read}
use Rattle.header.proofs.head.Header.read.Goals as goal

pub returns-in_err-check-clause-header : goal.returns-in_err-check-clause-header
returns-in_err-check-clause-header c =
    let page = c.args.page.now in
    let f = c.in_page-fields.result in
    let d = c.in_err-check.field-0.0 in
    exit_same (HeaderRead c.args.pages c.args.page_len page) c.from_residual.result d c.from_residual.ensures.1
    (fault_read c.args.pages c.args.page_len page f d (omega arith) c.in_page-fields.ensures (c.in_err-check.ensures ∙ ap (λ z. numbers_fault c.args.pages c.args.page_len (numbers_of f) (blank z)) c.split_at.ensures.back))

checked : (c : goal.In_ok-check) → Right c.args.pages c.args.page_len c.in_page-fields.result (blank (drop 18 c.args.page.now))
checked c =
    right c.args.pages c.args.page_len c.in_page-fields.result (blank (drop 18 c.args.page.now))
    (sym (c.in_ok-check.ensures ∙ ap (λ z. numbers_fault c.args.pages c.args.page_len (numbers_of c.in_page-fields.result) (blank z)) c.split_at.ensures.back))

pub header-requires-clause-mark : goal.header-requires-clause-mark
header-requires-clause-mark c = (checked c).mark

pub header-requires-clause-version : goal.header-requires-clause-version
header-requires-clause-version c = (checked c).version

pub header-requires-clause-at_rest : goal.header-requires-clause-at_rest
header-requires-clause-at_rest c = (checked c).edit

pub header-requires-clause-some : goal.header-requires-clause-some
header-requires-clause-some c = (checked c).some

pub header-requires-clause-few : goal.header-requires-clause-few
header-requires-clause-few c = (checked c).few

pub header-requires-clause-spare : goal.header-requires-clause-spare
header-requires-clause-spare c = (checked c).spare

pub header-requires-clause-zero : goal.header-requires-clause-zero
header-requires-clause-zero c = (checked c).zero

pub returns-clause-header : goal.returns-clause-header
returns-clause-header c =
    let page = c.args.page.now in
    let f = c.in_page-fields.result in
    let r = right c.args.pages c.args.page_len f (blank (drop 18 page)) (sym (c.in_ok-check.ensures ∙ ap (λ z. numbers_fault c.args.pages c.args.page_len (numbers_of f) (blank z)) c.split_at.ensures.back)) in
    header_read c.args.pages c.args.page_len page f c.header.result (λ i. omega (arith, c.type_inv.page i)) (omega arith) r c.in_page-fields.ensures c.header.ensures
