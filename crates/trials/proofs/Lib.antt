pub mod CodeAfter
