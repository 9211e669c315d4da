use Rattle.std.proofs.Common.{arith, ◌≡◌, ◌∙◌, ◌^◌, ◌*ℤ◌, pos, refl, sym}
use Rattle.gd_dir.specs.Directions.{entry, first_other, second_other}
use Rattle.gd_flat.proofs.Leading.{apart_at, highs_at, lows_at}
use Rattle.gd_flat.proofs.Sizes.{kept-is, kept_short-is}
use Rattle.gd_flat.specs.FlatTests.{point_at, scale_hi, scale_lo}
use Rattle.gd_vec.specs.Vector.{difference}
use Rattle.gd_flat.specs.PointRows.{rows_in}
use Rattle.gd_flat.proofs.face.span_at.Goals as goal

pub returns-clause-lo : goal.returns-clause-lo
returns-clause-lo c =
    let f = c.args.face.now in
    let b = c.args.face.now.directions in
    let rows = rows_in c.args.face.now.points in
    let apart = difference (point_at rows c.args.at) (point_at rows 0) in
    let lead : c.apart.result ≡ entry b.lead apart = c.apart.ensures.value ∙ apart_at b.lead rows f.lead.values.now c.args.at f.lead_is c.requires in
    let first : c.apart-first.result ≡ entry (first_other b.lead) apart = c.apart-first.ensures.value ∙ apart_at (first_other b.lead) rows f.first.along.values.now c.args.at f.first_is.along c.requires in
    let second : c.apart-second.result ≡ entry (second_other b.lead) apart = c.apart-second.ensures.value ∙ apart_at (second_other b.lead) rows f.second.along.values.now c.args.at f.second_is.along c.requires in
    let k = kept_short-is c.apart.result (omega (arith, c.apart.ensures.size)) in
    let k1 = kept_short-is c.apart-first.result (omega (arith, c.apart-first.ensures.size)) in
    let k2 = kept_short-is c.apart-second.result (omega (arith, c.apart-second.ensures.size)) in
    let x : c.times-lead.result ≡ pos (2 ^ 30) *ℤ entry b.lead apart = c.times-lead.ensures.value ∙ rw (k, lead) refl in
    let y : c.least_product.result ≡ scale_lo (entry (first_other b.lead) b.lo) (entry (first_other b.lead) b.hi) (entry (first_other b.lead) apart) =
    c.least_product.ensures.value ∙ rw (k1, first, f.first_is.lo, f.first_is.hi) refl in
    let z : c.least_product-2.result ≡ scale_lo (entry (second_other b.lead) b.lo) (entry (second_other b.lead) b.hi) (entry (second_other b.lead) apart) =
    c.least_product-2.ensures.value ∙ rw (k2, second, f.second_is.lo, f.second_is.hi) refl in
    let kx = kept-is c.times-lead.result (omega (arith, c.times-lead.ensures.size)) in
    let ky = kept-is c.least_product.result (omega (arith, c.least_product.ensures.size)) in
    let kz = kept-is c.least_product-2.result (omega (arith, c.least_product-2.ensures.size)) in
    kept-is c.sum.result (omega (arith, c.sum.ensures.size)) ∙ c.sum.ensures.value ∙ rw (kx, ky, kz, x, y, z) refl ∙ sym (lows_at b rows c.args.at f.leads c.requires)

pub returns-clause-hi : goal.returns-clause-hi
returns-clause-hi c =
    let f = c.args.face.now in
    let b = c.args.face.now.directions in
    let rows = rows_in c.args.face.now.points in
    let apart = difference (point_at rows c.args.at) (point_at rows 0) in
    let lead : c.apart.result ≡ entry b.lead apart = c.apart.ensures.value ∙ apart_at b.lead rows f.lead.values.now c.args.at f.lead_is c.requires in
    let first : c.apart-first.result ≡ entry (first_other b.lead) apart = c.apart-first.ensures.value ∙ apart_at (first_other b.lead) rows f.first.along.values.now c.args.at f.first_is.along c.requires in
    let second : c.apart-second.result ≡ entry (second_other b.lead) apart = c.apart-second.ensures.value ∙ apart_at (second_other b.lead) rows f.second.along.values.now c.args.at f.second_is.along c.requires in
    let k = kept_short-is c.apart.result (omega (arith, c.apart.ensures.size)) in
    let k1 = kept_short-is c.apart-first.result (omega (arith, c.apart-first.ensures.size)) in
    let k2 = kept_short-is c.apart-second.result (omega (arith, c.apart-second.ensures.size)) in
    let x : c.times-lead.result ≡ pos (2 ^ 30) *ℤ entry b.lead apart = c.times-lead.ensures.value ∙ rw (k, lead) refl in
    let y : c.greatest_product.result ≡ scale_hi (entry (first_other b.lead) b.lo) (entry (first_other b.lead) b.hi) (entry (first_other b.lead) apart) =
    c.greatest_product.ensures.value ∙ rw (k1, first, f.first_is.lo, f.first_is.hi) refl in
    let z : c.greatest_product-2.result ≡ scale_hi (entry (second_other b.lead) b.lo) (entry (second_other b.lead) b.hi) (entry (second_other b.lead) apart) =
    c.greatest_product-2.ensures.value ∙ rw (k2, second, f.second_is.lo, f.second_is.hi) refl in
    let kx = kept-is c.times-lead.result (omega (arith, c.times-lead.ensures.size)) in
    let ky = kept-is c.greatest_product.result (omega (arith, c.greatest_product.ensures.size)) in
    let kz = kept-is c.greatest_product-2.result (omega (arith, c.greatest_product-2.ensures.size)) in
    kept-is c.sum-2.result (omega (arith, c.sum-2.ensures.size)) ∙ c.sum-2.ensures.value ∙ rw (kx, ky, kz, x, y, z) refl ∙ sym (highs_at b rows c.args.at f.leads c.requires)
