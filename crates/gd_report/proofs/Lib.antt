mod JsonTexts
mod KnownReports
mod KnownTexts
