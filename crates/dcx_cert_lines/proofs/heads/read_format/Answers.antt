-- The line is the first of a certificate.
use Rattle.std.specs.Prelude.{codes}
use Rattle.dcx_cert_lines.specs.CertText.{first_line}
use Rattle.dcx_cert_lines.proofs.Chain.{was_read, was_none, read_same}
use Rattle.dcx_cert_lines.proofs.heads.read_format.Goals as goal

pub returns-then-branch-clause-read : goal.returns-then-branch-clause-read
unfolding first_line
returns-then-branch-clause-read c =
    was_read (codes "certificate 1") c.args.cursor.now.rest.now c.args.cursor.now.line c.reads.new.cursor.rest.now c.reads.new.cursor.line c.in_ok-reads.field-0 c.if-branch.true
    (c.in_ok-reads.ensures {u = tt})

pub returns-then-branch-2-clause-read : goal.returns-then-branch-2-clause-read
unfolding first_line
returns-then-branch-2-clause-read c =
    let none = was_none (codes "certificate 1") c.args.cursor.now.rest.now c.args.cursor.now.line c.reads.new.cursor.rest.now c.reads.new.cursor.line c.in_ok-reads.field-0 c.if-branch.false
    (c.in_ok-reads.ensures {u = tt}) in
    let read = was_read (codes "certificate 2") c.reads.new.cursor.rest.now c.reads.new.cursor.line c.reads-2.new.cursor.rest.now c.reads-2.new.cursor.line c.in_ok-reads-2.field-0
    c.if-branch-2.true (c.in_ok-reads-2.ensures {u = tt}) in
    read_same _ c.args.cursor.now.rest.now c.args.cursor.now.line c.reads.new.cursor.rest.now c.reads.new.cursor.line c.reads-2.new.cursor.rest.now c.reads-2.new.cursor.line none.0 read
